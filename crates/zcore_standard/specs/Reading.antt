-- Waiting for a line or a key, and the line that is then given (Z-Machine Standards Document 1.1, section 15, `aread` and
-- `read_char`). No time runs out, and a line ends with 13 alone.
use Rattle.std.specs.Prelude.{◌==◌, ◌&&◌, ◌||◌, ◌++◌, ◌+◌, ◌-◌, ℕ, nat_le, Bool, if◌then◌else◌, List, [], ◌∷◌}
use Rattle.std.specs.Prelude.{bytes_eq, codes, length, map, slice_index, take, Option, None}
use Rattle.zcore.specs.declared.place.Fault.TheVariants as faults
use Rattle.zcore.specs.declared.next.Next.{Next}
use Rattle.zcore.specs.Header.{dictionary_of}
use Rattle.zcore.specs.Parsing.{first_words}
use Rattle.zcore.specs.Parts.{test, test_result, store_result, wait, goes_on}
use Rattle.zcore.specs.State.{Pending, State, Out, ◌>>=◌}
use Rattle.zcore.specs.Turn.{with_bytes, with_letters}
use Rattle.zcore_standard.specs.Input.{codes_typed, small}
use Rattle.zcore_standard.specs.Loaded.{Loaded}
use Rattle.zcore_standard.specs.Texts.{alphabets_of}
use Rattle.zcore_standard.specs.Place.{Here, within}
use Rattle.zcore_standard.specs.Streams.{begin_read}
use Rattle.zcore_standard.specs.Words.{are_writable, has_slots, letters_in, slots_bytes}

-- Waiting

-- A text buffer has room for as many letters as its byte 0 says, one or more, and has some of them already where its
-- byte 1 is not 0. It is in dynamic memory, after the header.
abbrev pub has_room : List ℕ → ℕ → Bool
has_room memory text =
    are_writable memory text (2 + slice_index memory text)
    && nat_le 1 (slice_index memory text)
    && nat_le (slice_index memory (text + 1)) (slice_index memory text)

unfoldable pub test_room : ℕ → State → Out (Unit {0})
test_room text s = test (has_room s.memory text) faults.Buffer s

-- a parse buffer of 0 is none
abbrev pub has_slots_or_none : List ℕ → ℕ → Bool
has_slots_or_none memory parse = (parse == 0) || has_slots memory parse

unfoldable pub test_slots_or_none : ℕ → State → Out (Unit {0})
test_slots_or_none parse s = test (has_slots_or_none s.memory parse) faults.Buffer s

-- all tests come before the wait
unfoldable pub wait_for_line : ℕ → Option ℕ → ℕ → ℕ → State → Out Next
wait_for_line after result text parse = do
  _ ← test_room text
  _ ← test_slots_or_none parse
  _ ← test_result result
  wait (record { text_buffer = text; parse_buffer = parse; result = result; return_address = after })

-- where a key is waited for, there is no text buffer: 0
unfoldable pub wait_for_key : ℕ → Option ℕ → State → Out Next
wait_for_key after result = do
  _ ← test_result result
  wait (record { text_buffer = 0; parse_buffer = 0; result = result; return_address = after })

-- aread: every stream is closed first, and the upper window is shown if that is selected
unfoldable pub read_line : List ℕ → Here → ℕ → Option ℕ → ℕ → ℕ → State → Out Here
read_line extra here after result text parse = do
  _ ← begin_read extra here
  (λ s. within here (wait_for_line after result text parse s))

-- read_char: the same
unfoldable pub read_key : List ℕ → Here → ℕ → Option ℕ → State → Out Here
read_key extra here after result = do
  _ ← begin_read extra here
  (λ s. within here (wait_for_key after result s))

-- The line that is given to aread

-- The letters that a text buffer has then: those that it had, and after them those of the line for which it has room,
-- in ZSCII and in small letters.
abbrev pub letters_with : List ℕ → List ℕ → ℕ → List ℕ → List ℕ
letters_with extra memory text line =
    letters_in memory text
    ++ map (small extra) (take (slice_index memory text - slice_index memory (text + 1)) (codes_typed extra line))

-- Their words fill the slots of the parse buffer, as by `tokenise`, by these alphabets. What is looked up is read in the
-- memory as it was.
abbrev pub with_words : List ℕ → List ℕ → ℕ → List ℕ → List ℕ → List ℕ
with_words alphabets memory parse letters written =
    if parse == 0 then written
    else (
    let words = first_words memory (dictionary_of memory) letters (slice_index memory parse) in
    with_bytes written (parse + 1)
    (length words ∷ slots_bytes alphabets memory (dictionary_of memory) 0 (parse + 2) words))

-- first the text buffer, then the parse buffer: where they overlap, the bytes of the parse buffer stand
abbrev pub with_line : List ℕ → List ℕ → ℕ → ℕ → List ℕ → List ℕ
with_line alphabets memory text parse letters =
    with_words alphabets memory parse letters (with_letters memory text letters)

-- The line that is given to read_char

-- lines that are keys of no character, and the ZSCII codes of these keys (3.8)
abbrev pub key_lines : List (List ℕ × ℕ)
key_lines =
    (codes "/key up", 129) ∷ (codes "/key down", 130) ∷ (codes "/key left", 131) ∷ (codes "/key right", 132) ∷
    (codes "/key escape", 27) ∷ (codes "/key delete", 8) ∷ []

-- Another line is the key of its first code; an empty one is the key that ends a line.
abbrev pub first_key : List ℕ → ℕ
first_key [] = 13
first_key (code ∷ codes) = code

abbrev pub key_among : List (List ℕ × ℕ) → List ℕ → ℕ → ℕ
key_among [] line other = other
key_among (key ∷ keys) line other = if bytes_eq line key.0 then key.1 else key_among keys line other

unfoldable pub key_of_line : List ℕ → List ℕ → ℕ
key_of_line extra line = key_among key_lines line (first_key (codes_typed extra line))

-- The turn of a line begins

-- what is waited for can be given: a key, or a line for buffers that have room
abbrev pub can_take : List ℕ → ℕ → ℕ → Bool
can_take memory text parse = (text == 0) || (has_room memory text && has_slots_or_none memory parse)

abbrev pub memory_given : Loaded → ℕ → ℕ → List ℕ → List ℕ → List ℕ
memory_given loaded text parse line memory =
    if text == 0 then memory
    else with_line (alphabets_of loaded) memory text parse (letters_with loaded.characters memory text line)

-- the result: the key, or the one that ended the line
abbrev pub result_given : List ℕ → ℕ → List ℕ → ℕ
result_given extra text line = if text == 0 then key_of_line extra line else 13

unfoldable pub standard_given : Loaded → Pending → List ℕ → ℕ → State → Out Next
standard_given loaded pending line fuel s = (do
  _ ← store_result pending.result (result_given loaded.characters pending.text_buffer line)
  goes_on pending.return_address fuel) (record s {
    memory = memory_given loaded pending.text_buffer pending.parse_buffer line s.memory;
    pending = None;
    text = [];
  })
