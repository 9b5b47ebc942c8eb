-- The definitions at worked examples.
use Rattle.std.proofs.Common.{◌≡◌, ℕ, List, refl}
use Rattle.std.specs.Prelude.{codes}
use Rattle.std.specs.Fmt.{digits}
use Rattle.derive_values.specs.Lifted.{lifted}
use Rattle.derive_values.proofs.Spoken.{heard, spoken, told}
use Rattle.derive_classes.specs.declared.parts.Row.{Row}
use Rattle.derive_classes.specs.declared.parts.Row.TheVariants as rows
use Rattle.derive_classes.specs.Classed.{classed, tested}
use Rattle.derive_classes.specs.Merged.{settled}
use Rattle.derive_classes.specs.Parts.{row_of}
use Rattle.derive_classes.specs.Properties.{declared}

abbrev classes : List ℕ → List ℕ
classes line = told (classed (lifted (heard line)))

abbrev row : Row → List ℕ → List ℕ
row wanted line = spoken (row_of wanted (heard line))

-- ---- parts

in_any_order : row rows.Properties (codes "has a with p 1 , q 2 class C private r")
    ≡ codes ", p 1 , q 2 , r"
unfolding digits
in_any_order = refl

attributes_and_classes : row rows.Given (codes "has a ~ b with p 1 class C D") ≡ codes "a ~ b C D"
unfolding digits
attributes_and_classes = refl

-- of each attribute the last mention counts
the_last_mention : spoken (settled (heard (codes "a b ~ a c b"))) ≡ codes "c b"
unfolding digits
the_last_mention = refl

what_is_no_attribute_stays : spoken (settled (heard (codes "a ~ 5 a"))) ≡ codes "5 a"
unfolding digits
what_is_no_attribute_stays = refl

-- ---- declarations and tests

properties_are_declared :
    spoken (declared (heard (codes "property p ; object a with p 1 , q 2 ; object b with q 3 ;")))
    ≡ codes "property p ; object a with p 1 , q 2 ; property q ; object b with q 3 ;"
unfolding digits
properties_are_declared = refl

a_test : spoken (tested (heard (codes "if ( x ofclass C or D ) rtrue ;"))) ≡ codes "if ( x has C or D ) rtrue ;"
unfolding digits
a_test = refl

-- ---- the pass

-- own properties come first, and then those of the class
a_class :
    classes (codes "property p ; property q ; Class C with p 1 , q 2 has light ; C lamp \"lamp\" with p 3 ;")
    ≡ codes "property p ; property q ; attribute C ; object lamp \"lamp\" with p 3 , q 2 has C light ;"
unfolding digits
a_class = refl

the_first_class_counts :
    classes (codes "property p ; Class C with p 1 ; Class D with p 2 ; object x class D C ;")
    ≡ codes "property p ; attribute C ; attribute D ; object x with p 2 has D C ;"
unfolding digits
the_first_class_counts = refl

additive_properties :
    classes (codes "property additive p ; Class C with p 1 2 ; Class D class C with p 3 ; D x with p 4 ;")
    ≡ codes "property p ; attribute C ; attribute D ; object x with p 4 3 1 2 has D C ;"
unfolding digits
additive_properties = refl

-- the objects of a class share its routines
a_routine_of_a_class :
    classes (codes "property p ; Class C with p [ ; ] ; C x ; C y ;")
    ≡ codes "property p ; attribute C ; [ x__r1 ; rfalse ; ] ; object x with p x__r1 has C ; object y with p x__r1 has C ;"
unfolding digits
a_routine_of_a_class = refl

an_object_without_a_name : classes (codes "object -> \"lamp\" has light ;") ≡ codes "object -> x__o0 \"lamp\" has light ;"
unfolding digits
an_object_without_a_name = refl

-- a class must be defined before
an_unknown_class : classes (codes "object x class C ; Class C ;") ≡ codes "refused"
unfolding digits
an_unknown_class = refl

-- parts of the profile stay as they are
nothing_to_do :
    classes (codes "property p ; object a \"a\" with p 1 , has light ; [ Main ; print a . p ; ] ;")
    ≡ codes "property p ; object a \"a\" with p 1 , has light ; [ Main ; print a . p ; ] ;"
unfolding digits
nothing_to_do = refl
