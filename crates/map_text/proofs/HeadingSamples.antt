-- The heading of a map, against values from outside.
use Rattle.std.proofs.Common.{◌≡◌, ◌++◌, ◌∷◌, [], replicate, refl}
use Rattle.std.specs.Prelude.{codes}
use Rattle.map_text.specs.Heading.{hash_of, heading_of}

-- FNV-1a of no bytes, of "a" and of "foobar", as its authors publish them
no_bytes : hash_of [] ≡ 14695981039346656037
no_bytes = refl

one_letter : hash_of (codes "a") ≡ 12638187200555641996
one_letter = refl

six_letters : hash_of (codes "foobar") ≡ 9625390261332436968
six_letters = refl

-- of two bytes after 28 that are 0: the sum is 1234 in hexadecimal
short_story : heading_of (replicate 28 0 ++ 18 ∷ 52 ∷ [])
    ≡ codes "inform map 1" ++ 10 ∷ codes "story 1234 03FA891029061BE3" ++ 10 ∷ []
short_story = refl
