-- Words and lines of old versions, computed.
use Rattle.std.proofs.Common.{◌≡◌, ℕ, List, [], ◌∷◌, ◌++◌, replicate, None, Some, refl, true, false}
use Rattle.std.specs.Prelude.{codes}
use lib.Utf8.{encode}
use Rattle.std.specs.Str.{chars, is_utf8}
use Rattle.ztext.specs.Words.{packed}
use Rattle.zcore.specs.Cutting.{words_of}
use Rattle.zcore.specs.Parsing.{first_words}
use Rattle.zcore.specs.Parts.{store_result}
use Rattle.zcore.specs.State.{Pending, State, done}
use Rattle.zcore.specs.Turn.{first_state}
use Rattle.zcore_standard.specs.Input.{small}
use Rattle.zcore_standard.specs.Texts.{spelling_by}
use Rattle.zcore_standard.specs.Unicode.{default_characters}
use Rattle.zcore_versions.specs.Versions.{Story}
use Rattle.zcore_versions.specs.Keys.{form_in, entry_of, entry_for}
use Rattle.zcore_versions.specs.Reading.{older_given}

abbrev story : ℕ → Story
story number = record {
  loaded = record {
    dynamic = [];
    dice = record { window = 0; random = 0; interval = 0; counter = 0 };
    is_sum_right = true;
    characters = default_characters;
    own_alphabets = None;
    saves = None;
    has_transcript = false;
  };
  version = record { number = number; routine_offset = 0; text_offset = 0 };
}

-- six Z-characters, and nine
four_bytes : form_in (story 3) (codes "hello there") ≡ 0x35 ∷ 0x51 ∷ 0xC6 ∷ 0x80 ∷ []
unfolding form_in packed spelling_by
four_bytes = refl

six_bytes : form_in (story 4) (codes "hello") ≡ 0x35 ∷ 0x51 ∷ 0x46 ∷ 0x85 ∷ 0x94 ∷ 0xA5 ∷ []
unfolding form_in packed spelling_by
six_bytes = refl

-- a text buffer at 64, a parse buffer at 80, and at 100 a dictionary with the separator `.` and the words `go` and `it`
abbrev memory : List ℕ → ℕ → List ℕ → List ℕ
memory text slots bytes =
    3 ∷ replicate 7 0 ++ 0 ∷ 100 ∷ replicate 4 0 ++ 0 ∷ 100 ∷ replicate 48 0
    ++ text ++ replicate 9 0 ++ slots ∷ bytes ++ 1 ∷ 46 ∷ 5 ∷ 0 ∷ 2 ∷
    0x32 ∷ 0x85 ∷ 0x94 ∷ 0xA5 ∷ 1 ∷ 0x3B ∷ 0x25 ∷ 0x94 ∷ 0xA5 ∷ 2 ∷ []

abbrev waiting : Pending
waiting = record { text_buffer = 64; parse_buffer = 80; result = None; return_address = 70 }

abbrev state : List ℕ → State
state text = record (first_state (memory text 2 (replicate 19 7))) { pending = Some waiting; text = codes "before" }

-- capitals become small; the third word finds no slot
given : older_given (story 3) waiting (codes "GO.IT") 5 (state (7 ∷ replicate 6 9))
    ≡ done (record { program_counter = 70; fuel = 5 })
    (first_state (memory (7 ∷ codes "go.it" ++ 0 ∷ []) 2 (2 ∷ 0 ∷ 105 ∷ 2 ∷ 1 ∷ 0 ∷ 0 ∷ 1 ∷ 3 ∷ replicate 10 7)))
unfolding older_given store_result chars is_utf8 small encode first_words words_of entry_for entry_of form_in packed spelling_by
given = refl

-- byte 0 is one more than the letters for which there is room
cut : older_given (story 3) waiting (codes "it go") 5 (state (3 ∷ replicate 6 9))
    ≡ done (record { program_counter = 70; fuel = 5 })
    (first_state (memory (3 ∷ codes "it" ++ 0 ∷ replicate 3 9) 2 (1 ∷ 0 ∷ 110 ∷ 2 ∷ 1 ∷ replicate 14 7)))
unfolding older_given store_result chars is_utf8 small encode first_words words_of entry_for entry_of form_in packed spelling_by
cut = refl
