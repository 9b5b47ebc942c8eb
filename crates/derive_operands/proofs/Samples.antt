-- The definitions at worked examples.
use Rattle.std.proofs.Common.{◌≡◌, ℕ, List, refl}
use Rattle.std.specs.Prelude.{codes}
use Rattle.std.specs.Fmt.{digits}
use Rattle.derive_values.proofs.Spoken.{heard, spoken}
use Rattle.derive_operands.specs.Alternatives.{chosen}
use Rattle.derive_operands.specs.Steps.{stepped}

-- ---- alternatives

abbrev chooses : List ℕ → List ℕ
chooses line = spoken (chosen (heard line))

alternatives_of_names :
    chooses (codes "[ F o ; if ( o . p ( o ) hasnt a or b && o has a ) return o has b or a or b ; ] ;")
    ≡ codes "[ F o ; if ( x__or1 ( o . p ( o ) ) && o has a ) return x__or2 ( o ) ; ] ;"
unfolding digits
alternatives_of_names = refl

alternatives_of_sums :
    chooses (codes "[ F x ; if ( x + 1 > 6 or ( x > 1 or 2 ) && x == 1 or 2 ) x = x in 3 or 4 ; ] ;")
    ≡ codes "[ F x ; if ( x__or1 ( x + 1 , 6 , ( x__or1 ( x , 1 , 2 ) ) ) && x == 1 or 2 ) x = x__or2 ( x , 3 , 4 ) ; ] ;"
unfolding digits
alternatives_of_sums = refl

-- ---- steps

abbrev steps : List ℕ → List ℕ
steps line = spoken (stepped (heard line))

steps_of_properties :
    steps (codes "[ F o ; o . p -- ; ++ o . p ; return o . p ++ + -- o . p ; ] ;")
    ≡ codes
    "[ F o ; o . p = o . p - 1 ; o . p = o . p + 1 ; return ( ( o . p = o . p + 1 ) - 1 ) + ( o . p = o . p - 1 ) ; ] ;"
unfolding digits
steps_of_properties = refl

steps_of_entries :
    steps (codes "[ F x ; x ++ ; return ( row --> x ) ++ ; ] ;")
    ≡ codes "[ F x ; x ++ ; return ( ( row --> x = ( row --> x ) + 1 ) - 1 ) ; ] ;"
unfolding digits
steps_of_entries = refl

-- in a `for`, an action and a condition
steps_in_a_loop :
    steps (codes "[ F o ; for ( o . p ++ : o . p ++ : o . p -- ) x ++ ; ] ;")
    ≡ codes "[ F o ; for ( o . p = o . p + 1 : ( ( o . p = o . p + 1 ) - 1 ) : o . p = o . p - 1 ) x ++ ; ] ;"
unfolding digits
steps_in_a_loop = refl

-- a call is not written twice, and brackets of a call are no operand
no_steps : steps (codes "[ F x ; ( F ( x ) ) ++ ; F ( x ) ++ ; if ( x ) ++ x ; ] ;") ≡ codes "[ F x ; ( F ( x ) ) ++ ; F ( x ) ++ ; if ( x ) ++ x ; ] ;"
unfolding digits
no_steps = refl
