-- `sread`, and the line that is then given, in versions 1 to 4: letters begin at byte 1 of the text buffer, and a 0
-- ends them (Z-Machine Standards Document 1.1, section 15, `sread`).
use Rattle.std.specs.Prelude.{◌==◌, ◌&&◌, ◌||◌, ◌+◌, ◌-◌, ◌/◌, ◌%◌, ℕ, nat_le, Bool, if◌then◌else◌, List, [], ◌∷◌, ◌++◌}
use Rattle.std.specs.Prelude.{length, map, slice_index, take, None}
use Rattle.std.specs.List.{flat_map}
use Rattle.zcore.specs.declared.next.Next.{Next}
use Rattle.zcore.specs.declared.place.Fault.TheVariants as faults
use Rattle.zcore.specs.Cutting.{Word}
use Rattle.zcore.specs.Header.{dictionary_of}
use Rattle.zcore.specs.Parsing.{first_words}
use Rattle.zcore.specs.Parts.{test, store_result, wait, goes_on}
use Rattle.zcore.specs.State.{Pending, State, Out, ◌>>=◌}
use Rattle.zcore.specs.Turn.{with_bytes}
use Rattle.zcore_standard.specs.Input.{codes_typed, small}
use Rattle.zcore_standard.specs.Place.{Here, within}
use Rattle.zcore_standard.specs.Reading.{can_take, has_slots_or_none, result_given, standard_given}
use Rattle.zcore_standard.specs.Streams.{begin_read}
use Rattle.zcore_standard.specs.Words.{are_writable, test_slots}
use Rattle.zcore_versions.specs.Keys.{entry_for}
use Rattle.zcore_versions.specs.Versions.{Story, is_old}

-- Waiting

-- Byte 0 of a text buffer is one more than the letters for which it has room, of which there are one or more. Its bytes
-- are in dynamic memory, after the header.
abbrev pub has_room : List ℕ → ℕ → Bool
has_room memory text =
    are_writable memory text (1 + slice_index memory text) && nat_le 2 (slice_index memory text)

unfoldable pub test_room : ℕ → State → Out (Unit {0})
test_room text s = test (has_room s.memory text) faults.Buffer s

unfoldable pub wait_for_line : ℕ → ℕ → ℕ → State → Out Next
wait_for_line after text parse = do
  _ ← test_room text
  _ ← test_slots parse
  wait (record { text_buffer = text; parse_buffer = parse; result = None; return_address = after })

-- sread: like `aread`, but there is no result, and there has to be a parse buffer
unfoldable pub read_older : Story → Here → ℕ → ℕ → ℕ → State → Out Here
read_older story here after text parse = do
  _ ← begin_read story.loaded.characters here
  (λ s. within here (wait_for_line after text parse s))

-- The line

-- what is waited for can be given: a key, or a line whose letters and the 0 after them have room
abbrev pub can_take_old : List ℕ → ℕ → ℕ → Bool
can_take_old memory text parse =
    (text == 0)
    || (are_writable memory text (1 + slice_index memory text) && nat_le 1 (slice_index memory text)
    && has_slots_or_none memory parse)

abbrev pub can_be_given : Story → List ℕ → ℕ → ℕ → Bool
can_be_given story memory text parse =
    if is_old story.version then can_take_old memory text parse else can_take memory text parse

-- its letters, in ZSCII and in small letters, as many as there is room for
abbrev pub letters_for : List ℕ → List ℕ → ℕ → List ℕ → List ℕ
letters_for extra memory text line = map (small extra) (take (slice_index memory text - 1) (codes_typed extra line))

-- The four bytes of a word: the address of its entry, its length, and its place in the text buffer, whose first letter
-- is at 1.
abbrev pub slot_bytes : Story → List ℕ → Word → List ℕ
slot_bytes story memory w =
    let entry = entry_for story memory (dictionary_of memory) w.bytes in
    (entry / 256) ∷ (entry % 256) ∷ length w.bytes ∷ ((w.place + 1) % 256) ∷ []

-- The first words of the letters, as many as there are slots. What is looked up is read in the memory as it was. Where the
-- dictionary cannot be read, each word is unknown.
abbrev pub with_words : Story → List ℕ → ℕ → List ℕ → List ℕ → List ℕ
with_words story memory parse letters written =
    if parse == 0 then written
    else (
    let words = first_words memory (dictionary_of memory) letters (slice_index memory parse) in
    with_bytes written (parse + 1) (length words ∷ flat_map (slot_bytes story memory) words))

-- first the text buffer, then the parse buffer; where a key was waited for, there is neither
abbrev pub memory_given : Story → ℕ → ℕ → List ℕ → List ℕ → List ℕ
memory_given story text parse line memory =
    if text == 0 then memory
    else (
    let letters = letters_for story.loaded.characters memory text line in
    with_words story memory parse letters (with_bytes memory (text + 1) (letters ++ 0 ∷ [])))

unfoldable pub older_given : Story → Pending → List ℕ → ℕ → State → Out Next
older_given story pending line fuel s = (do
  _ ← store_result pending.result (result_given story.loaded.characters pending.text_buffer line)
  goes_on pending.return_address fuel) (record s {
    memory = memory_given story pending.text_buffer pending.parse_buffer line s.memory;
    pending = None;
    text = [];
  })

abbrev pub any_given : Story → Pending → List ℕ → ℕ → State → Out Next
any_given story = if is_old story.version then older_given story else standard_given story.loaded
