-- The definitions at worked examples.
use Rattle.std.proofs.Common.{◌≡◌, ℕ, List, [], ◌∷◌, ◌++◌, Ok, Err, refl}
use Rattle.std.specs.Prelude.{codes, replicate}
use Rattle.ztext.specs.Alphabets.{spelling_of}
use Rattle.ztext.specs.Reading.{Character, End, Abbreviation, Lower, reads}
use Rattle.ztext.specs.Words.{packed, unpacked_text}
use Rattle.ztext.specs.Text.{decoded, encoded, key_of, abbreviation, refused}

hello_encoded : encoded (codes "hello") ≡ 0x35 ∷ 0x51 ∷ 0xC6 ∷ 0x85 ∷ []
unfolding encoded packed spelling_of
hello_encoded = refl

nothing_encoded : encoded [] ≡ 0x94 ∷ 0xA5 ∷ []
unfolding encoded packed
nothing_encoded = refl

hello_decoded : decoded (0x35 ∷ 0x51 ∷ 0xC6 ∷ 0x85 ∷ []) 0 ≡ Ok (codes "hello", 4)
unfolding decoded abbreviation unpacked_text reads
hello_decoded = refl

take_key : key_of (codes "take") ≡ 0x64 ∷ 0xD0 ∷ 0x28 ∷ 0xA5 ∷ 0x94 ∷ 0xA5 ∷ []
unfolding key_of packed spelling_of
take_key = refl

-- nine Z-characters are told apart, and a tenth is not
long_key : key_of (codes "lanterns") ≡ key_of (codes "lanterns1")
unfolding key_of packed spelling_of
long_key = refl

capital_key : key_of (codes "TAKE") ≡ key_of (codes "take")
unfolding key_of packed spelling_of
capital_key = refl

dollar_spelled : spelling_of 36 ≡ 5 ∷ 6 ∷ 1 ∷ 4 ∷ []
unfolding spelling_of
dollar_spelled = refl

-- a shift after a shift takes its place, and holds for one Z-character
shifted_twice : reads refused Lower (4 ∷ 5 ∷ 8 ∷ 8 ∷ []) ≡ Ok (codes "0c")
unfolding reads
shifted_twice = refl

-- a space after a shift ends it
shift_and_space : reads refused Lower (4 ∷ 0 ∷ 6 ∷ []) ≡ Ok (codes " a")
unfolding reads
shift_and_space = refl

-- an abbreviation, and an escape, that are not finished
abbreviation_unfinished : reads refused Lower (6 ∷ 1 ∷ []) ≡ Ok (codes "a")
unfolding reads
abbreviation_unfinished = refl

escape_unfinished : reads refused Lower (6 ∷ 5 ∷ 6 ∷ 1 ∷ []) ≡ Ok (codes "a")
unfolding reads
escape_unfinished = refl

abbreviation_within : reads refused Lower (6 ∷ 1 ∷ 0 ∷ []) ≡ Err Abbreviation
unfolding reads
abbreviation_within = refl

escape_of_no_character : reads refused Lower (5 ∷ 6 ∷ 4 ∷ 0 ∷ []) ≡ Err Character
unfolding reads
escape_of_no_character = refl

-- a story with a table at 64, whose first abbreviation at 256 is "hello", and a text at 260 that is it and "a"
with_table : List ℕ
with_table = replicate 24 0 ++ (0 ∷ 64 ∷ []) ++ replicate 38 0 ++ (0 ∷ 128 ∷ []) ++ replicate 190 0
    ++ (0x35 ∷ 0x51 ∷ 0xC6 ∷ 0x85 ∷ 0x84 ∷ 0x06 ∷ [])

abbreviation_decoded : decoded with_table 260 ≡ Ok (codes "helloa", 262)
unfolding decoded abbreviation unpacked_text reads with_table
abbreviation_decoded = refl

-- the same, where the abbreviation uses one itself
with_nested : List ℕ
with_nested = replicate 24 0 ++ (0 ∷ 64 ∷ []) ++ replicate 38 0 ++ (0 ∷ 128 ∷ []) ++ replicate 190 0
    ++ (0x84 ∷ 0x06 ∷ [])

nested_refused : decoded with_nested 256 ≡ Err Abbreviation
unfolding decoded abbreviation unpacked_text reads with_nested
nested_refused = refl

no_table_refused : decoded (0x84 ∷ 0x06 ∷ []) 0 ≡ Err Abbreviation
unfolding decoded abbreviation unpacked_text reads
no_table_refused = refl

past_end_refused : decoded (0x35 ∷ 0x51 ∷ 0xC6 ∷ 0x85 ∷ []) 5 ≡ Err End
unfolding decoded unpacked_text
past_end_refused = refl

unmarked_refused : decoded (0x35 ∷ 0x51 ∷ 0x46 ∷ 0x85 ∷ []) 0 ≡ Err End
unfolding decoded unpacked_text
unmarked_refused = refl
