-- The definitions at worked examples.
use Rattle.std.proofs.Common.{◌≡◌, ◌++◌, [], ◌∷◌, refl}
use Rattle.std.specs.Prelude.{codes}
use Rattle.std.specs.Fmt.{digits}
use Rattle.derive_addresses.specs.Words.{address_text, shown}

-- Nine letters fit, and of a digit nothing where one code is left.
long_words : (shown (codes "lighthouses") ≡ codes "lighthous") × (shown (codes "lanterns1") ≡ codes "lanterns")
long_words = (refl, refl)

signs_in_words : (shown (codes "o^clock") ≡ codes "o'clock") × (shown (codes "abc=def") ≡ codes "abc=de")
signs_in_words = (refl, refl)

two_words :
    address_text (codes "lamp" ∷ codes "b" ∷ [])
    ≡ codes "[ x__address1 x__v;switch(x__v){'lamp':print \"lamp\";'b//':print \"b\";default:rfalse;}rtrue;];"
    ++ codes "[ x__address x__v;if(x__address1(x__v))rtrue;print \"^[Fault: not a word]^\";quit;];"
unfolding digits
two_words = refl
