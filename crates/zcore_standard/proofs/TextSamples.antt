-- Characters of ZSCII codes, and texts with codes outside ASCII, computed.
use Rattle.std.proofs.Common.{◌≡◌, ℕ, List, [], ◌∷◌, ◌++◌, length, take, drop, refl, true, Option, Some, None, Ok, Err}
use Rattle.std.proofs.Common.{false}
use Rattle.ztext.specs.Reading.{End, Abbreviation}
use Rattle.ztext.specs.Words.{unpacked_text}
use Rattle.zcore.specs.declared.place.Limit.TheVariants as limits
use Rattle.zcore.specs.declared.place.Place.TheVariants as places
use Rattle.zcore.specs.State.{State, done, halt}
use Rattle.zcore.specs.Turn.{at_rest, first_state}
use Rattle.zcore_standard.specs.Characters.{shown_by, print_each, print_codes}
use Rattle.zcore_standard.specs.Texts.{default_alphabets, codes_at, read_codes, abbreviation_codes, spelled_by, spelling_by}
use Rattle.zcore_standard.specs.Unicode.{default_characters, print_whole}
use Rattle.zcore_standard.specs.Loaded.{Loaded}
use Rattle.zcore_standard.specs.Printing.{any_text_at, print_any_address, print_any_character}

alphabets_count : length default_alphabets ≡ 78
alphabets_count = refl

-- a umlaut, by the default table and by a table of one character, and a code that the table does not have
umlaut : shown_by default_characters 155 ≡ (0xC3 ∷ 0xA4 ∷ []) ∷ []
umlaut = refl

by_own_table : shown_by (0x416 ∷ []) 155 ≡ (0xD0 ∷ 0x96 ∷ []) ∷ []
by_own_table = refl

past_the_table : shown_by (0x416 ∷ []) 156 ≡ (63 ∷ []) ∷ []
past_the_table = refl

last_of_the_default : shown_by default_characters 223 ≡ (0xC2 ∷ 0xBF ∷ []) ∷ []
last_of_the_default = refl

nothing : shown_by default_characters 0 ≡ []
nothing = refl

tab : shown_by default_characters 9 ≡ (32 ∷ []) ∷ []
tab = refl

sentence_space : shown_by default_characters 11 ≡ (32 ∷ []) ∷ (32 ∷ []) ∷ []
sentence_space = refl

new_line : shown_by default_characters 13 ≡ (10 ∷ []) ∷ []
new_line = refl

tilde : shown_by default_characters 126 ≡ (126 ∷ []) ∷ []
tilde = refl

undefined : shown_by default_characters 127 ≡ (63 ∷ []) ∷ []
undefined = refl

last_code : shown_by default_characters 1023 ≡ (63 ∷ []) ∷ []
last_code = refl

-- "h", the code 155 by an escape, a capital
text : List ℕ
text = 0x34 ∷ 0xA6 ∷ 0x13 ∷ 0x64 ∷ 0x9C ∷ 0xA5 ∷ []

read : codes_at default_alphabets text 0 ≡ Ok (104 ∷ 155 ∷ 66 ∷ [], 6)
unfolding codes_at read_codes unpacked_text text
read = refl

no_end : codes_at default_alphabets (0x34 ∷ 0xA6 ∷ []) 0 ≡ Err End
unfolding codes_at unpacked_text
no_end = refl

-- an abbreviation, where no table can stand
no_table : codes_at default_alphabets (0x84 ∷ 0x05 ∷ []) 0 ≡ Err Abbreviation
unfolding codes_at read_codes abbreviation_codes unpacked_text
no_table = refl

-- a character of two bytes where one byte is left of the turn's text
no_room : (s : State) → length s.text ≡ 65535
    → print_codes default_characters (155 ∷ 65 ∷ []) s ≡ halt (places.Limit limits.Text) s
unfolding print_each print_whole
no_room s e = rw e refl

-- a story of the default characters
abbrev loaded : Option (List ℕ) → Loaded
loaded own = record {
  dynamic = [];
  dice = at_rest;
  is_sum_right = true;
  characters = default_characters;
  own_alphabets = own;
  saves = None;
  has_transcript = false;
}

-- print_char 155
an_umlaut : print_any_character (loaded None) (record { program_counter = 100; fuel = 5 }) 104 155 (first_state [])
    ≡ done (record { program_counter = 104; fuel = 5 }) (record (first_state []) { text = 0xC3 ∷ 0xA4 ∷ [] })
unfolding print_any_character print_each print_whole
an_umlaut = refl

-- print_addr of a text with an accent
an_address : print_any_address (loaded None) (record { program_counter = 100; fuel = 5 }) 104 0 (first_state text)
    ≡ done (record { program_counter = 104; fuel = 5 }) (record (first_state text) { text = 104 ∷ 0xC3 ∷ 0xA4 ∷ 66 ∷ [] })
unfolding print_any_address any_text_at codes_at read_codes unpacked_text text print_each print_whole
an_address = refl

-- alphabets of which the first begins with ZSCII 155
abbrev own : List ℕ
own = 155 ∷ drop 1 default_alphabets

-- the first two letters of the first alphabet, and the first of the second
abbrev three_letters : List ℕ
three_letters = 0x18 ∷ 0xE4 ∷ 0x98 ∷ 0xA5 ∷ []

by_own : codes_at own three_letters 0 ≡ Ok (155 ∷ 98 ∷ 65 ∷ [], 4)
unfolding codes_at read_codes unpacked_text
by_own = refl

-- in the third alphabet 7 is a new line, and an escape comes before any code, whatever is written there (3.5.5)
in_the_third : codes_at (take 52 own ++ 65 ∷ 66 ∷ drop 54 own) (0x14 ∷ 0xE5 ∷ 0x20 ∷ 0xA6 ∷ 0x8C ∷ 0x45 ∷ []) 0
    ≡ Ok (13 ∷ 48 ∷ 98 ∷ [], 6)
unfolding codes_at read_codes unpacked_text
in_the_third = refl

-- print_addr of a text by the story's own alphabets
an_own_address : print_any_address (loaded (Some own)) (record { program_counter = 100; fuel = 5 }) 104 0
    (first_state three_letters)
    ≡ done (record { program_counter = 104; fuel = 5 })
    (record (first_state three_letters) { text = 0xC3 ∷ 0xA4 ∷ 98 ∷ 65 ∷ [] })
unfolding print_any_address any_text_at codes_at read_codes unpacked_text print_each print_whole
an_own_address = refl

-- the Z-characters of codes: by the first alphabet that has one, or by an escape
spelled_by_own : spelled_by own (155 ∷ 65 ∷ 13 ∷ 48 ∷ 97 ∷ 32 ∷ [])
    ≡ 6 ∷ 4 ∷ 6 ∷ 5 ∷ 7 ∷ 5 ∷ 8 ∷ 5 ∷ 6 ∷ 3 ∷ 1 ∷ 0 ∷ []
unfolding spelling_by
spelled_by_own = refl
