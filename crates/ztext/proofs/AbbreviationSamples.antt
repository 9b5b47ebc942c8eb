-- Texts that use abbreviations, at worked examples.
use Rattle.std.proofs.Common.{◌≡◌, ℕ, List, [], ◌∷◌, ◌++◌, Some, Ok, refl}
use Rattle.std.specs.Prelude.{codes, replicate}
use Rattle.ztext.specs.Alphabets.{spelling_of}
use Rattle.ztext.specs.Reading.{reads}
use Rattle.ztext.specs.Words.{packed, unpacked_text}
use Rattle.ztext.specs.Text.{decoded, abbreviation}
use Rattle.ztext.specs.Abbreviations.{longest, spelled_behind, encoded_with}

the_lamp : encoded_with (codes "the " ∷ []) (codes "the lamp") ≡ 0x04 ∷ 0x11 ∷ 0x9A ∷ 0x55 ∷ []
unfolding encoded_with packed spelling_of
the_lamp = refl

-- the longest, wherever it stands among them
longest_taken : spelled_behind (codes "th" ∷ codes "the " ∷ codes "the" ∷ []) 0 (codes "the l") ≡ 1 ∷ 1 ∷ 17 ∷ []
unfolding spelling_of
longest_taken = refl

-- of two that are as long, which are then the same, the first
first_taken : longest (codes "in" ∷ codes "in" ∷ []) (codes "inn") ≡ Some (record { number = 0; length = 2 })
first_taken = refl

-- where two overlap, the one at the earlier place, though the other one is longer
earlier_taken : spelled_behind (codes "ab" ∷ codes "bcd" ∷ []) 0 (codes "abcd") ≡ 1 ∷ 0 ∷ 8 ∷ 9 ∷ []
unfolding spelling_of
earlier_taken = refl

-- none of them stands in the text
none_taken : encoded_with (codes "xyzzy" ∷ []) (codes "hello") ≡ 0x35 ∷ 0x51 ∷ 0xC6 ∷ 0x85 ∷ []
unfolding encoded_with packed spelling_of
none_taken = refl

-- the end of the text, and one that the text is too short for
last_taken : spelled_behind (codes "in" ∷ codes "ing" ∷ []) 0 (codes "sin") ≡ 24 ∷ 1 ∷ 0 ∷ []
unfolding spelling_of
last_taken = refl

-- more than one, one behind the other
two_taken : spelled_behind (codes "the " ∷ codes "in" ∷ []) 0 (codes "in the in") ≡ 1 ∷ 1 ∷ 0 ∷ 1 ∷ 0 ∷ 1 ∷ 1 ∷ []
unfolding spelling_of
two_taken = refl

-- the first of the second row, and the last of the third
second_row : spelled_behind (replicate 32 (codes "xx") ++ codes "go" ∷ []) 0 (codes "go") ≡ 2 ∷ 0 ∷ []
second_row = refl

last_row : spelled_behind (replicate 95 (codes "xx") ++ codes "go" ∷ []) 0 (codes "go") ≡ 3 ∷ 31 ∷ []
last_row = refl

-- one behind the first 96 is not used
beyond_the_table : spelled_behind (replicate 96 (codes "xx") ++ codes "go" ∷ []) 0 (codes "go") ≡ 12 ∷ 20 ∷ []
unfolding spelling_of
beyond_the_table = refl

-- "the lamp" in a story with a table at 64, whose first abbreviation at 256 is "the "
with_the : List ℕ
with_the = replicate 24 0 ++ (0 ∷ 64 ∷ []) ++ replicate 38 0 ++ (0 ∷ 128 ∷ []) ++ replicate 190 0
    ++ (0x65 ∷ 0xAA ∷ 0x80 ∷ 0xA5 ∷ 0x04 ∷ 0x11 ∷ 0x9A ∷ 0x55 ∷ [])

the_lamp_decoded : decoded with_the 260 ≡ Ok (codes "the lamp", 264)
unfolding decoded abbreviation unpacked_text reads with_the
the_lamp_decoded = refl
