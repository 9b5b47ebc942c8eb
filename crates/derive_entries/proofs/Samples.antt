-- The definitions at worked examples.
use Rattle.std.proofs.Common.{◌≡◌, ℕ, List, refl}
use Rattle.std.specs.Prelude.{codes}
use Rattle.std.specs.Fmt.{digits}
use Rattle.syntax_lexer.specs.Token.{Lexeme}
use Rattle.derive_values.proofs.Spoken.{heard, spoken}
use Rattle.derive_entries.specs.Arrays.{arrays_of, places_of}
use Rattle.derive_entries.specs.Entries.{entered}

abbrev entered_in : List Lexeme → List Lexeme
entered_in ts = entered (arrays_of ts) (places_of ts) ts

abbrev enters : List ℕ → List ℕ
enters line = spoken (entered_in (heard line))

-- The second array that is a value is the first that is declared; the sign of an entry keeps the name.
arrays_are_numbers :
    enters (codes "array a --> 7 8 ; array b -> 2 ; [ F x ; x = b ; return x + a --> 1 == a or b ; ] ;")
    ≡ codes "array a --> 7 8 ; array b -> 2 ; [ F x ; x = 40960 ; return x + a --> 1 == 40961 or 40960 ; ] ;"
unfolding digits
arrays_are_numbers = refl

-- A name that is defined twice stays.
names_that_stay :
    enters (codes "array a --> 7 8 ; global a ; property b a ; [ F ; return a ; ] ;")
    ≡ codes "array a --> 7 8 ; global a ; property b 40960 ; [ F ; return 40960 ; ] ;"
unfolding digits
names_that_stay = refl

entries_are_calls :
    enters (codes "[ F x ; x --> 1 = x -> ( x --> 2 ) + 3 ; return F ( x ) . p --> x . q , 5 ; ] ;")
    ≡ codes
    "[ F x ; x__set_word ( x , 1 , x__byte ( x , ( x__word ( x , 2 ) ) ) + 3 ) ; return x__word ( F ( x ) . p , x . q ) , 5 ; ] ;"
unfolding digits
entries_are_calls = refl

-- entries of the profile, and of what no entry has
entries_that_stay :
    enters (codes "array a --> 7 8 ; [ F o ; a --> 1 = o .& p --> 2 ; a --> o --> 1 = - o --> 2 ; ] ;")
    ≡ codes "array a --> 7 8 ; [ F o ; a --> 1 = o .& p --> 2 ; a --> o --> 1 = - o --> 2 ; ] ;"
unfolding digits
entries_that_stay = refl
