-- Whole files at worked examples.
use Rattle.std.proofs.Common.{◌≡◌, ℕ, List, ◌++◌, Ok, Err, length, drop, refl}
use Rattle.std.specs.Prelude.{codes}
use Rattle.std.specs.Fmt.{digits}
use Rattle.derive_values.proofs.Spoken.{heard}
use Rattle.derive.specs.Passes.{Derived, first_objects, passed}

abbrev bytes : Derived → List ℕ
bytes (Ok text) = text
bytes (Err fault) = codes "refused"

-- after the four objects
abbrev derives : List ℕ → List ℕ
derives line = drop (length first_objects) (bytes (passed (heard line)))

a_main_with_locals :
    derives (codes "[ Main x ; spaces x ; ] ;")
    ≡ codes " [ x__Main x ; x__spaces ( x ) ; ] ; [ Main;x__Main();];"
    ++ codes "[ x__spaces x__n;while(x__n>0){print(char)32;x__n--;}];"
unfolding digits
a_main_with_locals = refl

-- nothing is added to a file without these forms
a_file_of_the_profile :
    derives (codes "[ Main ; print 5 , ( char ) 65 ; ] ;") ≡ codes " [ Main ; print 5 , ( char ) 65 ; ] ; "
unfolding digits
a_file_of_the_profile = refl

alternatives_are_routines :
    derives (codes "[ Main ; if ( 1 hasnt a or b || 2 > 3 or 4 ) rtrue ; ] ;")
    ≡ codes " [ Main ; if ( x__or1 ( 1 ) || x__or2 ( 2 , 3 , 4 ) ) rtrue ; ] ; "
    ++ codes "[ x__or1 x__o;return ~~(x__o has a||x__o has b);];"
    ++ codes "[ x__or2 x__o x__a1 x__a2;return (x__o > x__a1||x__o > x__a2);];"
unfolding digits
alternatives_are_routines = refl

-- A text and a routine as values, which are printed and called.
values_are_used :
    derives (codes "[ F x ; ] ; [ Main y ; y = \"hi\" ; print ( string ) y ; y = F ; y ( 5 ) ; ] ;")
    ≡ codes " [ F x ; ] ; [ x__Main y ; y = 49152 ; { x__string ( y ) ; } y = 57344 ; x__call ( y , 5 ) ; ] ; "
    ++ codes "[ Main;x__Main();];"
    ++ codes "[ x__call x__v x__a x__b x__c x__d x__e x__f;if(x__v==0)rfalse;if(x__v>=57344&&x__v<57345)"
    ++ codes "{return f(x__a);}print \"^[Fault: not a routine]^\";quit;];"
    ++ codes "[ x__t49152;print \"hi\";rtrue;];[ x__string x__v;if(x__v>=49152&&x__v<49153){return x__t49152();}"
    ++ codes "print \"^[Fault: not a text]^\";quit;];"
unfolding digits
values_are_used = refl

-- of conditional compilation, the branches that are taken
branches_are_taken :
    derives (codes "constant a 1 ; Iftrue a == 1 ; [ F ; ] ; Ifnot ; [ G ; ] ; Endif ; "
    ++ codes "Ifdef b ; [ H ; ] ; Endif ; [ Main ; ] ;")
    ≡ codes " constant a = 1 ; [ F ; ] ; [ Main ; ] ; "
unfolding digits
branches_are_taken = refl

-- a class is an attribute, and gives its objects what it has
classes_are_attributes :
    derives (codes "attribute open ; Class Box has open ; Box bag \"bag\" ; [ Main ; ] ;")
    ≡ codes " attribute open ; attribute Box ; object bag \"bag\" has Box open ; [ Main ; ] ; "
unfolding digits
classes_are_attributes = refl
