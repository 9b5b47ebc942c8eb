-- The line that is given to a waiting machine, computed.
use Rattle.std.proofs.Common.{◌≡◌, ℕ, List, [], ◌∷◌, ◌++◌, replicate, None, Some, refl, true, false}
use Rattle.std.specs.Prelude.{codes}
use lib.Utf8.{encode}
use Rattle.std.specs.Str.{chars, is_utf8}
use Rattle.zcore.specs.Cutting.{words_of}
use Rattle.zcore.specs.Dictionary.{entry_of}
use Rattle.zcore.specs.Parsing.{first_words}
use Rattle.zcore.specs.Parts.{store_result, write_variable, push}
use Rattle.zcore.specs.State.{Pending, State, done}
use Rattle.zcore.specs.Turn.{first_environment, first_state}
use Rattle.zcore_standard.specs.Reading.{letters_with, with_line, key_of_line, standard_given}
use Rattle.zcore_standard.specs.Input.{small, small_character}
use Rattle.zcore_standard.specs.Loaded.{Loaded}
use Rattle.zcore_standard.specs.Streams.{code_among}
use Rattle.zcore_standard.specs.Texts.{default_alphabets}
use Rattle.zcore_standard.specs.Unicode.{default_characters}
use Rattle.zcore_standard.specs.Words.{entry_with_form}

-- Keys

up : key_of_line default_characters (codes "/key up") ≡ 129
unfolding key_of_line
up = refl

down : key_of_line default_characters (codes "/key down") ≡ 130
unfolding key_of_line
down = refl

left : key_of_line default_characters (codes "/key left") ≡ 131
unfolding key_of_line
left = refl

right : key_of_line default_characters (codes "/key right") ≡ 132
unfolding key_of_line
right = refl

escape : key_of_line default_characters (codes "/key escape") ≡ 27
unfolding key_of_line
escape = refl

delete : key_of_line default_characters (codes "/key delete") ≡ 8
unfolding key_of_line
delete = refl

empty : key_of_line default_characters [] ≡ 13
unfolding key_of_line chars is_utf8 encode
empty = refl

letter : key_of_line default_characters (codes "Yes") ≡ 89
unfolding key_of_line chars is_utf8 encode
letter = refl

-- not exactly a key
other : key_of_line default_characters (codes "/key UP") ≡ 47
unfolding key_of_line chars is_utf8 encode
other = refl

longer : key_of_line default_characters (codes "/key up ") ≡ 47
unfolding key_of_line chars is_utf8 encode
longer = refl

-- the ZSCII code of a character
accent : key_of_line default_characters (0xC3 ∷ 0x89 ∷ codes "t") ≡ 176
unfolding key_of_line chars is_utf8 code_among encode
accent = refl

-- Letters

-- room for 5 letters at 0, of which 2 are left over
abbrev buffer : List ℕ
buffer = 5 ∷ 2 ∷ codes "Go" ++ replicate 3 9

appended : letters_with default_characters buffer 0 (codes " IT") ≡ codes "Go it"
unfolding chars is_utf8 small encode
appended = refl

cut : letters_with default_characters buffer 0 (codes " ITEM") ≡ codes "Go it"
unfolding chars is_utf8 small encode
cut = refl

nothing : letters_with default_characters buffer 0 [] ≡ codes "Go"
unfolding chars is_utf8 small encode
nothing = refl

full : letters_with default_characters (2 ∷ 2 ∷ codes "Go") 0 (codes "it") ≡ codes "Go"
unfolding chars is_utf8 small encode
full = refl

accented : letters_with default_characters buffer 0 (codes " " ++ 0xC3 ∷ 0x89 ∷ codes "T") ≡ codes "Go " ++ 170 ∷ codes "t"
unfolding chars is_utf8 code_among small small_character encode
accented = refl

-- Buffers: a text buffer at 64 as above, a parse buffer at 80, and a dictionary at 100 with the separator `.` and no
-- entries

abbrev memory : List ℕ → ℕ → List ℕ → List ℕ
memory text slots bytes =
    replicate 8 0 ++ 0 ∷ 100 ∷ replicate 4 0 ++ 0 ∷ 100 ∷ replicate 48 0
    ++ text ++ replicate 9 0 ++ slots ∷ bytes ++ 1 ∷ 46 ∷ 9 ∷ 0 ∷ 0 ∷ []

-- both words are parsed: the one that was left over too
parses : with_line default_alphabets (memory buffer 2 (replicate 19 7)) 64 80 (codes "Go it")
    ≡ memory (5 ∷ 5 ∷ codes "Go it") 2
    (2 ∷ 0 ∷ 0 ∷ 2 ∷ 2 ∷ 0 ∷ 0 ∷ 2 ∷ 5 ∷ replicate 10 7)
unfolding first_words words_of entry_with_form entry_of
parses = refl

-- a parse buffer with room for no word
no_word : with_line default_alphabets (memory buffer 0 (replicate 19 7)) 64 80 (codes "Go it")
    ≡ memory (5 ∷ 5 ∷ codes "Go it") 0 (0 ∷ replicate 18 7)
unfolding first_words words_of
no_word = refl

-- no parse buffer
unparsed : with_line default_alphabets (memory buffer 2 (replicate 19 7)) 64 0 (codes "Go it")
    ≡ memory (5 ∷ 5 ∷ codes "Go it") 2 (replicate 19 7)
unparsed = refl

-- The turn begins

abbrev loaded : Loaded
loaded = record {
  dynamic = [];
  dice = record { window = 0; random = 0; interval = 0; counter = 0 };
  is_sum_right = true;
  characters = default_characters;
  own_alphabets = None;
  saves = None;
  has_transcript = false;
}

abbrev waiting : ℕ → ℕ → Pending
waiting text parse = record { text_buffer = text; parse_buffer = parse; result = Some 0; return_address = 70 }

abbrev state : List ℕ → ℕ → State
state text slots = record (first_state (memory text slots (replicate 19 7))) {
  pending = Some (waiting 64 0);
  text = codes "before";
}

abbrev with_result : List ℕ → ℕ → State
with_result text word =
    record (first_state (memory text 2 (replicate 19 7))) { frames = record first_environment { stack = word ∷ [] } ∷ [] }

key_given : standard_given loaded (waiting 0 0) (codes "/key up") 5 (state buffer 2)
    ≡ done (record { program_counter = 70; fuel = 5 }) (with_result buffer 129)
unfolding standard_given key_of_line store_result write_variable push
key_given = refl

line_given : standard_given loaded (waiting 64 0) (codes "/KEY up") 5 (state buffer 2)
    ≡ done (record { program_counter = 70; fuel = 5 }) (with_result (5 ∷ 5 ∷ codes "Go/ke") 13)
unfolding standard_given store_result write_variable push chars is_utf8 small encode
line_given = refl
