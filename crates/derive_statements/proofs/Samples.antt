-- The definitions at worked examples.
use Rattle.std.proofs.Common.{◌≡◌, ℕ, List, refl}
use Rattle.std.specs.Prelude.{codes}
use Rattle.std.specs.Fmt.{digits}
use Rattle.derive_values.proofs.Spoken.{heard, spoken}
use Rattle.derive_statements.specs.Lists.{introduced, listed}
use Rattle.derive_statements.specs.Prints.{printed}
use Rattle.derive_statements.specs.Loops.{looped}

abbrev introduces : List ℕ → List ℕ
introduces line = spoken (introduced (heard line))

abbrev lists : List ℕ → List ℕ
lists line = spoken (listed (heard line))

a_text_begins_a_list :
    introduces (codes "[ F x ; \"You\" , x ; \"No.\" ; if ( x ) \"one\" , x ; ] ;")
    ≡ codes "[ F x ; print_ret \"You\" , x ; \"No.\" ; if ( x ) print_ret \"one\" , x ; ] ;"
unfolding digits
a_text_begins_a_list = refl

actions_in_a_row :
    lists (codes "[ F x y ; if ( x ) x = 1 , y = G ( x , y ) ; ] ;")
    ≡ codes "[ F x y ; if ( x ) { x = 1 ; y = G ( x , y ) ; } ] ;"
unfolding digits
actions_in_a_row = refl

-- the values of a case and of a list that is printed are no actions
no_actions :
    lists (codes "[ F x ; switch ( x ) { 1 , 2 : print x , x ; } ] ;") ≡ codes "[ F x ; switch ( x ) { 1 , 2 : print x , x ; } ] ;"
unfolding digits
no_actions = refl

actions_in_a_loop :
    lists (codes "[ F x y ; for ( x = 0 , y = 3 : x < y : x ++ , y -- ) print x ; ] ;")
    ≡ codes "[ F x y ; for ( x__both ( x = 0 , y = 3 ) : x < y : x__both ( x ++ , y -- ) ) print x ; ] ;"
unfolding digits
actions_in_a_loop = refl

-- ---- print rules

abbrev prints : List ℕ → List ℕ
prints line = spoken (printed (heard line))

rules_of_the_source :
    prints (codes "[ Star n ; ] ; [ Main x ; if ( x ) print ( Star ) 1 , x + 1 , ( string ) x ; ] ;")
    ≡ codes "[ Star n ; ] ; [ Main x ; if ( x ) { Star ( 1 ) ; print x + 1 ; x__string ( x ) ; } ] ;"
unfolding digits
rules_of_the_source = refl

-- without `DefArt`, and with `IndefArt`
articles :
    prints (codes "[ IndefArt o ; ] ; [ Main o ; print_ret ( the ) o , ( a ) o ; ] ;")
    ≡ codes "[ IndefArt o ; ] ; [ Main o ; { print \"the \" , ( object ) o ; IndefArt ( o ) ; new_line ; rtrue ; } ] ;"
unfolding digits
articles = refl

the_text_of_a_word :
    prints (codes "[ F w ; print ( address ) w , 1 ; ] ;") ≡ codes "[ F w ; { x__address ( w ) ; print 1 ; } ] ;"
unfolding digits
the_text_of_a_word = refl

-- a list without such a rule stays whole
whole_lists : prints (codes "[ Main o ; print ( object ) o , ( o ) , 5 ; ] ;") ≡ codes "[ Main o ; print ( object ) o , ( o ) , 5 ; ] ;"
unfolding digits
whole_lists = refl

-- ---- loops

abbrev loops : List ℕ → List ℕ
loops line = spoken (looped (heard line))

siblings_from_one_on :
    loops (codes "[ F x ; objectloop ( x from child ( x ) ) { spaces x + 1 ; } objectloop ( x in 3 ) x = 1 ; ] ;")
    ≡ codes
    "[ F x ; for ( x = child ( x ) : x : x = sibling ( x ) ) { x__spaces ( x + 1 ) ; } objectloop ( x in 3 ) x = 1 ; ] ;"
unfolding digits
siblings_from_one_on = refl
