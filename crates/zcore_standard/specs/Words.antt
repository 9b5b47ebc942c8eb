-- Words of a text, and their form in a dictionary (Z-Machine Standards Document 1.1, section 13, and section 15,
-- `tokenise` and `encode_text`).
use Rattle.std.specs.Prelude.{◌==◌, ◌&&◌, ◌||◌, ◌+◌, ◌*◌, ◌/◌, ◌%◌, ℕ, nat_le, Bool, if◌then◌else◌}
use Rattle.std.specs.Prelude.{List, [], ◌∷◌, ◌++◌, length, take, take_while, replicate, slice_index, slice_range}
use Rattle.zcore.specs.declared.next.Next.{Next}
use Rattle.zcore.specs.declared.place.Fault.TheVariants as faults
use Rattle.ztext.specs.Words.{packed}
use Rattle.zcore.specs.Header.{dictionary_of, entry_length_of, static_base_of, static_end}
use Rattle.zcore.specs.Layout.{header_size}
use Rattle.zcore.specs.Cutting.{Word}
use Rattle.zcore.specs.Dictionary.{number_of_key, entries_in, entry_of, is_dictionary}
use Rattle.zcore.specs.Parsing.{first_words}
use Rattle.zcore.specs.State.{State, Out, done, ◌>>=◌}
use Rattle.zcore.specs.Parts.{test, fault, goes_on}
use Rattle.zcore.specs.Turn.{with_bytes}
use Rattle.zcore_standard.specs.Fuel.{spend_for}
use Rattle.zcore_standard.specs.Texts.{spelled_by}

-- whether so many bytes from an address on can be read
abbrev pub are_readable : List ℕ → ℕ → ℕ → Bool
are_readable memory at count = (count == 0) || nat_le (at + count) (static_end memory)

-- whether so many bytes from an address on can be written
abbrev pub are_writable : List ℕ → ℕ → ℕ → Bool
are_writable memory at count = nat_le header_size at && nat_le (at + count) (static_base_of memory)

-- The form of a word in a dictionary, by these alphabets: its first nine Z-characters, filled with fives (13.3). A capital
-- is not made a small letter here: `aread` does that, where a line is typed.
unfoldable pub form_of : List ℕ → List ℕ → List ℕ
form_of alphabets word = packed (take 9 (spelled_by alphabets word ++ replicate 9 5))

-- tokenise

-- the dictionary that an operand names: 0 is the story's
abbrev pub dictionary_for : List ℕ → ℕ → ℕ
dictionary_for memory dictionary = if dictionary == 0 then dictionary_of memory else dictionary

-- A dictionary that an operand names has to be readable. Where the story's own is not, each word is unknown, as of a line
-- that is typed.
abbrev pub can_be_searched : List ℕ → ℕ → Bool
can_be_searched memory dictionary = (dictionary == dictionary_of memory) || is_dictionary memory dictionary

unfoldable pub test_dictionary : ℕ → State → Out (Unit {0})
test_dictionary dictionary s = test (can_be_searched s.memory (dictionary_for s.memory dictionary)) faults.Read s

-- A text buffer has the number of its letters in byte 1, and the letters from byte 2 on.
abbrev pub letters_in : List ℕ → ℕ → List ℕ
letters_in memory text = slice_range memory (text + 2) (text + 2 + slice_index memory (text + 1))

-- the text that has words: a byte 0 ends it before its letters end
abbrev pub before_zero : List ℕ → List ℕ
before_zero letters = take_while (λ letter. nat_le 1 letter) letters

abbrev pub text_in : List ℕ → ℕ → List ℕ
text_in memory text = before_zero (letters_in memory text)

abbrev pub has_letters : List ℕ → ℕ → Bool
has_letters memory text = nat_le (text + 2 + slice_index memory (text + 1)) (static_end memory)

unfoldable pub test_letters : ℕ → State → Out (Unit {0})
test_letters text s = test (has_letters s.memory text) faults.Read s

-- A parse buffer has a slot of four bytes for each of as many words as its byte 0 says, from byte 2 on. It is in dynamic
-- memory, after the header.
abbrev pub has_slots : List ℕ → ℕ → Bool
has_slots memory parse = are_writable memory parse (2 + 4 * slice_index memory parse)

unfoldable pub test_slots : ℕ → State → Out (Unit {0})
test_slots parse s = test (has_slots s.memory parse) faults.Buffer s

-- the address of the first entry that has the form of a word, or 0
unfoldable pub entry_with_form : List ℕ → List ℕ → ℕ → List ℕ → ℕ
entry_with_form alphabets memory dictionary word = entry_of memory dictionary (number_of_key (form_of alphabets word))

-- the four bytes of a word: the address of its entry, its length, and its place in the text buffer
abbrev pub four_bytes : ℕ → Word → List ℕ
four_bytes entry w = (entry / 256) ∷ (entry % 256) ∷ length w.bytes ∷ ((w.place + 2) % 256) ∷ []

-- the slot of a word, at an address: with the flag, a word that is not found leaves the bytes that are there
abbrev pub slot_bytes : List ℕ → List ℕ → ℕ → ℕ → ℕ → Word → List ℕ
slot_bytes alphabets memory dictionary flag at w =
    if (entry_with_form alphabets memory dictionary w.bytes == 0) && nat_le 1 flag then slice_range memory at (at + 4)
    else four_bytes (entry_with_form alphabets memory dictionary w.bytes) w

-- the slots of words, from an address on
abbrev pub slots_bytes : List ℕ → List ℕ → ℕ → ℕ → ℕ → List Word → List ℕ
slots_bytes alphabets memory dictionary flag at [] = []
slots_bytes alphabets memory dictionary flag at (w ∷ ws) =
    slot_bytes alphabets memory dictionary flag at w ++ slots_bytes alphabets memory dictionary flag (at + 4) ws

-- The first words of a text, as many as there are slots: their number goes to byte 1 of the parse buffer, and then each
-- fills its slot. Everything is read in the memory as it was.
abbrev pub with_slots : List ℕ → List ℕ → ℕ → ℕ → ℕ → ℕ → List ℕ
with_slots alphabets memory text parse dictionary flag =
    let words = first_words memory dictionary (text_in memory text) (slice_index memory parse) in
    with_bytes memory (parse + 1) (length words ∷ slots_bytes alphabets memory dictionary flag (parse + 2) words)

unfoldable pub fill_slots : List ℕ → ℕ → ℕ → ℕ → ℕ → State → Out (Unit {0})
fill_slots alphabets text parse dictionary flag s = done tt
    (record s { memory = with_slots alphabets s.memory text parse (dictionary_for s.memory dictionary) flag })

-- with how many bytes of entries the words that have slots are compared; the story's dictionary costs nothing
abbrev pub searched_bytes : List ℕ → ℕ → ℕ → ℕ → ℕ
searched_bytes memory text parse dictionary =
    if dictionary == dictionary_of memory then 0
    else entries_in memory dictionary * entry_length_of memory dictionary
    * length (first_words memory dictionary (text_in memory text) (slice_index memory parse))

unfoldable pub spend_search : ℕ → ℕ → ℕ → ℕ → State → Out ℕ
spend_search text parse dictionary fuel s =
    spend_for (searched_bytes s.memory text parse (dictionary_for s.memory dictionary)) fuel s

-- all its tests come before a byte is written
unfoldable pub tokenise : List ℕ → Next → ℕ → ℕ → ℕ → ℕ → ℕ → State → Out Next
tokenise alphabets here after text parse dictionary flag = do
  _ ← test_letters text
  _ ← test_slots parse
  _ ← test_dictionary dictionary
  fuel ← spend_search text parse dictionary here.fuel
  _ ← fill_slots alphabets text parse dictionary flag
  goes_on after fuel

-- encode_text

-- the form of a word that has so many characters from an address on
unfoldable pub form_at : List ℕ → ℕ → ℕ → State → Out (List ℕ)
form_at alphabets at count s =
    if are_readable s.memory at count then done (form_of alphabets (slice_range s.memory at (at + count))) s
    else fault faults.Read s

unfoldable pub write_bytes : ℕ → List ℕ → State → Out (Unit {0})
write_bytes at bytes s =
    if are_writable s.memory at (length bytes) then done tt (record s { memory = with_bytes s.memory at bytes })
    else fault faults.Write s

-- the word begins at a place of a text; its form is written to an address
unfoldable pub encode_text : List ℕ → Next → ℕ → ℕ → ℕ → ℕ → ℕ → State → Out Next
encode_text alphabets here after text count from coded = do
  form ← form_at alphabets ((text + from) % 65536) count
  _ ← write_bytes coded form
  goes_on after here.fuel
