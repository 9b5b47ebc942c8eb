-- The status line, computed.
use Rattle.std.proofs.Common.{◌≡◌, ℕ, true, List, [], ◌∷◌, ◌++◌, None, refl, false}
use Rattle.std.specs.Prelude.{codes, replicate}
use Rattle.ztext.specs.Words.{unpacked_text}
use Rattle.zcore.specs.Arithmetic.{decimal, signed_text}
use Rattle.zcore.specs.Parts.{read_byte, read_word}
use Rattle.zcore.specs.Turn.{first_state}
use Rattle.zcore_standard.specs.Characters.{print_each}
use Rattle.zcore_standard.specs.Loaded.{Loaded}
use Rattle.zcore_standard.specs.Texts.{codes_at, read_codes}
use Rattle.zcore_standard.specs.Unicode.{default_characters, print_whole}
use Rattle.zcore_versions.specs.Printing.{print_text, text_in}
use Rattle.zcore_versions.specs.SmallObjects.{test_object, property_table, print_object}
use Rattle.zcore_versions.specs.StatusLine.{filled, minutes_text, place_shown, short_name, status_line, with_score, with_time}
use Rattle.zcore_versions.specs.Versions.{Story, versioned}

abbrev loaded : Loaded
loaded = record {
  dynamic = [];
  dice = record { window = 0; random = 0; interval = 0; counter = 0 };
  is_sum_right = true;
  characters = default_characters;
  own_alphabets = None;
  saves = None;
  has_transcript = false;
}

abbrev story_of : ℕ → Story
story_of version = versioned loaded (record { number = version; routine_offset = 0; text_offset = 0 })

-- Flags 1; the property defaults at 64, the entry of object 1 at 126, its property table with the short name "elm" at
-- 135, and the globals at 139, where static memory begins at 145
abbrev memory_of : ℕ → List ℕ → List ℕ
memory_of flags globals =
    (3 ∷ flags ∷ []) ++ replicate 8 0 ++ (0 ∷ 64 ∷ 0 ∷ 139 ∷ 0 ∷ 145 ∷ []) ++ replicate 48 0 ++ replicate 62 0
    ++ (0 ∷ 0 ∷ 0 ∷ 0 ∷ 0 ∷ 0 ∷ 0 ∷ 0 ∷ 135 ∷ []) ++ (1 ∷ 0xAA ∷ 0x32 ∷ 0 ∷ []) ++ globals

-- a space, the name, spaces up to 50 characters; the score, spaces up to 66 in all; the moves
score : status_line (story_of 3) (first_state (memory_of 0 (0 ∷ 1 ∷ 0 ∷ 5 ∷ 0 ∷ 17 ∷ [])))
    ≡ codes " elm" ++ replicate 46 32 ++ codes "Score: 5" ++ replicate 8 32 ++ codes "Moves: 17"
unfolding status_line with_score place_shown filled short_name print_object test_object property_table read_word read_byte print_text text_in codes_at read_codes unpacked_text print_each print_whole signed_text decimal
score = refl

-- no object 0, and a score below 0
no_name : status_line (story_of 3) (first_state (memory_of 0 (0 ∷ 0 ∷ 0xFF ∷ 0xFF ∷ 0 ∷ 0 ∷ [])))
    ≡ replicate 50 32 ++ codes "Score: -1" ++ replicate 7 32 ++ codes "Moves: 0"
unfolding status_line with_score place_shown filled short_name print_object test_object signed_text decimal
no_name = refl

-- bit 1 of Flags 1: five past nine
time : status_line (story_of 3) (first_state (memory_of 2 (0 ∷ 0 ∷ 0 ∷ 9 ∷ 0 ∷ 5 ∷ [])))
    ≡ replicate 50 32 ++ codes "Time: 9:05"
unfolding status_line with_time place_shown filled short_name print_object test_object minutes_text signed_text decimal
time = refl

-- all games of versions 1 and 2 have scores
early : status_line (story_of 2) (first_state (memory_of 2 (0 ∷ 0 ∷ 0 ∷ 9 ∷ 0 ∷ 5 ∷ [])))
    ≡ replicate 50 32 ++ codes "Score: 9" ++ replicate 8 32 ++ codes "Moves: 5"
unfolding status_line with_score place_shown filled short_name print_object test_object signed_text decimal
early = refl

later : status_line (story_of 4) (first_state (memory_of 0 (0 ∷ 1 ∷ 0 ∷ 5 ∷ 0 ∷ 17 ∷ []))) ≡ []
unfolding status_line
later = refl

-- one space at least, and a character of two bytes counts as one
long : filled 3 (codes "abcd") ≡ codes "abcd "
unfolding filled
long = refl

full : filled 4 (codes "abcd") ≡ codes "abcd "
unfolding filled
full = refl

accent : filled 3 (0xC3 ∷ 0xA9 ∷ []) ≡ 0xC3 ∷ 0xA9 ∷ 32 ∷ 32 ∷ []
unfolding filled
accent = refl
