-- The definitions at worked examples.
use Rattle.std.proofs.Common.{◌≡◌, ℕ, List, refl}
use Rattle.std.specs.Prelude.{codes}
use Rattle.std.specs.Fmt.{digits}
use Rattle.derive_values.proofs.Spoken.{heard, told}
use Rattle.derive_expressions.specs.Calls.{called}

-- ---- calls by value and messages

abbrev calls : List ℕ → List ℕ
calls line = told (called (heard line))

-- `F` is a routine, `f` a local
calls_by_value :
    calls (codes "[ F ; ] ; [ Main g ; g = F ( ) ; if ( g ( 1 , F ( ) ) ) g ( ) ; ( g ) ( 2 ) ; ] ;")
    ≡ codes "[ F ; ] ; [ Main g ; g = F ( ) ; if ( x__call ( g , 1 , F ( ) ) ) x__call ( g ) ; x__call ( ( g ) , 2 ) ; ] ;"
unfolding digits
calls_by_value = refl

messages :
    calls (codes "[ Main o ; o . p ( 3 ) ; print ( object ) o . q ( ) . p ( o . r ) , self . p ( ) ( 4 ) ; ] ;")
    ≡ codes
    "[ Main o ; x__send1 ( o , 3 ) ; print ( object ) x__send1 ( x__send2 ( o ) , o . r ) , x__call ( x__send1 ( x__self ) , 4 ) ; ] ;"
unfolding digits
messages = refl

functions_of_inform :
    calls (codes "[ Main o ; o = random ( 6 ) + random ( 1 , 2 , 3 ) ; return children ( o ) + indirect ( o , 5 ) ; ] ;")
    ≡ codes "[ Main o ; o = x__random ( 6 ) + x__one3 ( 1 , 2 , 3 ) ; return x__children ( o ) + x__call ( o , 5 ) ; ] ;"
unfolding digits
functions_of_inform = refl

-- in a header and after a rule no bracket calls
brackets_that_call_nothing :
    calls (codes "[ Main o ; if ( o ) ( o ) . p ( ) ; print ( char ) ( o ) ; ] ;")
    ≡ codes "[ Main o ; if ( o ) x__send1 ( ( o ) ) ; print ( char ) ( o ) ; ] ;"
unfolding digits
brackets_that_call_nothing = refl

too_many_arguments : calls (codes "[ Main o ; o . p ( 1 , 2 , 3 , 4 , 5 , 6 ) ; ] ;") ≡ codes "refused"
unfolding digits
too_many_arguments = refl
