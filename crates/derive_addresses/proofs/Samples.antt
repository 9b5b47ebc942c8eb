-- The definitions at worked examples.
use Rattle.std.proofs.Common.{◌≡◌, ℕ, List, refl}
use Rattle.std.specs.Prelude.{codes}
use Rattle.std.specs.Fmt.{digits}
use Rattle.derive_values.proofs.Spoken.{heard, spoken}
use Rattle.derive_addresses.specs.Addresses.{settled}

abbrev settles : List ℕ → List ℕ
settles line = spoken (settled (heard line))

-- With the sign of an entry behind it, an address stays.
addresses_are_properties :
    settles (codes "property p ; object bag \"bag\" with p 1 2 ; [ F x ; x = bag .& p ; return bag .& p --> 1 ; ] ;")
    ≡ codes
    "property p ; object bag \"bag\" with x__of1 40960 , p 1 2 ; [ F x ; x = bag . x__of1 ; return bag .& p --> 1 ; ] ;"
unfolding digits
addresses_are_properties = refl

-- The words of a property come after the arrays, and what is no property is refused.
places_come_after_arrays :
    settles (codes "array a --> 7 8 ; object bag \"bag\" with name \"a\" ; [ F ; return a + bag .& name + bag .& lost ; ] ;")
    ≡ codes
    "array a --> 7 8 ; object bag \"bag\" with x__of1 40961 , name \"a\" ; [ F ; return 40960 + bag . x__of1 + bag . lost ; ] ;"
unfolding digits
places_come_after_arrays = refl
