-- The definitions at worked examples.
use Rattle.std.proofs.Common.{◌≡◌, ℕ, List, refl}
use Rattle.std.specs.Prelude.{codes}
use Rattle.std.specs.Fmt.{digits}
use Rattle.derive_values.specs.Lifted.{lifted}
use Rattle.derive_values.specs.Values.{valued}
use Rattle.derive_values.proofs.Spoken.{heard, spoken, told}

abbrev lifts : List ℕ → List ℕ
lifts line = spoken (lifted (heard line))

abbrev values : List ℕ → List ℕ
values line = told (valued (heard line))

-- ---- routines in properties

a_routine_in_a_property :
    lifts (codes "object bag with before [ x ; return x ; ] , weight 4 ; [ Main ; ] ;")
    ≡ codes "object bag with before x__r1 , weight 4 ; [ x__r1 x ; return x ; rfalse ; ] ; [ Main ; ] ;"
unfolding digits
a_routine_in_a_property = refl

a_routine_of_a_class :
    lifts (codes "class door with before [ x ; ] ;") ≡ codes "class door with before x__r1 ; [ x__r1 x ; rfalse ; ] ;"
unfolding digits
a_routine_of_a_class = refl

two_routines_in_properties :
    lifts (codes "object bag with p [ ; ] , q [ ; ] ; object pen with p [ ; ] ;")
    ≡ codes
    "object bag with p x__r1 , q x__r2 ; [ x__r1 ; rfalse ; ] ; [ x__r2 ; rfalse ; ] ; object pen with p x__r3 ; [ x__r3 ; rfalse ; ] ;"
unfolding digits
two_routines_in_properties = refl

-- ---- texts

-- The first text is printed, and the two others are values, of which equal ones have one number.
texts_are_numbers :
    values (codes "global g = \"one\" ; [ Main ; print ( string ) g , \"^\" ; g = \"two\" ; return \"one\" ; ] ;")
    ≡ codes "global g = 49152 ; [ Main ; print ( string ) g , \"^\" ; g = 49153 ; return 49152 ; ] ;"
unfolding digits
texts_are_numbers = refl

-- after a condition, `else`, a label and in a list of what a text begins
texts_are_printed :
    values (codes "[ F x ; if ( x == \"a\" ) \"b\" ; else \"c\" , x , \"d\" ; switch ( x ) { 1 : \"e\" ; } ] ;")
    ≡ codes "[ F x ; if ( x == 49152 ) \"b\" ; else \"c\" , x , \"d\" ; switch ( x ) { 1 : \"e\" ; } ] ;"
unfolding digits
texts_are_printed = refl

-- the short name of an object, its words, and a text that is the value of a property
texts_of_an_object :
    values (codes "object bag \"bag\" with name \"sack\" \"b\" , shown \"Old.\" ;")
    ≡ codes "object bag \"bag\" with name 'sack' 'b//' , shown 49152 ;"
unfolding digits
texts_of_an_object = refl

a_text_that_is_no_word : values (codes "object bag \"bag\" with name \"sa//ck\" ;") ≡ codes "refused"
unfolding digits
a_text_that_is_no_word = refl

-- ---- routines

routines_are_numbers :
    values (codes "array row --> B A B ; [ A ; ] ; [ B x ; x = A ; return x ( 3 ) == B ( A ) ; ] ;")
    ≡ codes "array row --> 57344 57345 57344 ; [ A ; ] ; [ B x ; x = 57345 ; return x ( 3 ) == B ( 57345 ) ; ] ;"
unfolding digits
routines_are_numbers = refl

-- A local hides the routine; a name before a bracket is called.
a_local_hides : values (codes "[ A ; ] ; [ B a ; return a + B ( ) ; ] ;") ≡ codes "[ A ; ] ; [ B a ; return a + B ( ) ; ] ;"
unfolding digits
a_local_hides = refl

-- but not in the directives behind its routine
a_local_ends :
    values (codes "[ A ; ] ; [ B a ; ] ; array row --> A A ;") ≡ codes "[ A ; ] ; [ B a ; ] ; array row --> 57344 57344 ;"
unfolding digits
a_local_ends = refl

-- `A` is a print rule before `3` and before `( 2 )`, and a value in a bracket that ends the item.
print_rules :
    values (codes "[ A ; ] ; [ Main ; print ( A ) 3 , ( A ) ( 2 ) , ( A ) , 1 + ( A ) ; ] ;")
    ≡ codes "[ A ; ] ; [ Main ; print ( A ) 3 , ( A ) ( 2 ) , ( 57344 ) , 1 + ( 57344 ) ; ] ;"
unfolding digits
print_rules = refl
