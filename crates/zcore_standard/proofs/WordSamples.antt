-- tokenise and encode_text, computed.
use Rattle.std.proofs.Common.{◌≡◌, List, [], ◌∷◌, ◌++◌, take, drop, refl}
use Rattle.std.specs.Prelude.{ℕ, codes, replicate, slice_set}
use Rattle.zcore.specs.declared.place.Fault.TheVariants as faults
use Rattle.zcore.specs.declared.place.Limit.TheVariants as limits
use Rattle.zcore.specs.declared.place.Place.TheVariants as places
use Rattle.zcore.specs.declared.next.Next.{Next}
use Rattle.ztext.specs.Words.{packed}
use Rattle.zcore.specs.Header.{key_at}
use Rattle.zcore.specs.Cutting.{words_of}
use Rattle.zcore.specs.Dictionary.{number_of_key, entry_of}
use Rattle.zcore.specs.Parsing.{first_words}
use Rattle.zcore.specs.State.{State, done, halt}
use Rattle.zcore.specs.Parts.{fault}
use Rattle.zcore.specs.Turn.{first_state}
use Rattle.zcore_standard.specs.Fuel.{spend_for}
use Rattle.zcore_standard.specs.Texts.{default_alphabets, spelling_by}
use Rattle.zcore_standard.specs.Words.{form_of, entry_with_form, with_slots, test_letters, test_slots, test_dictionary}
use Rattle.zcore_standard.specs.Words.{searched_bytes, spend_search, form_at, write_bytes, encode_text}

-- The forms of words (3.7 and 13.3)

hello : form_of default_alphabets (codes "hello") ≡ 0x35 ∷ 0x51 ∷ 0x46 ∷ 0x85 ∷ 0x94 ∷ 0xA5 ∷ []
unfolding form_of packed spelling_by
hello = refl

-- a space is Z-character 0
with_space : form_of default_alphabets (codes "a b") ≡ 0x18 ∷ 0x07 ∷ 0x14 ∷ 0xA5 ∷ 0x94 ∷ 0xA5 ∷ []
unfolding form_of packed spelling_by
with_space = refl

-- a capital keeps its shift
with_capital : form_of default_alphabets (codes "Ab") ≡ 0x10 ∷ 0xC7 ∷ 0x14 ∷ 0xA5 ∷ 0x94 ∷ 0xA5 ∷ []
unfolding form_of packed spelling_by
with_capital = refl

-- an escape that does not end within nine Z-characters is left incomplete
cut_escape : form_of default_alphabets (codes "aaaaaaa@") ≡ 0x18 ∷ 0xC6 ∷ 0x18 ∷ 0xC6 ∷ 0x98 ∷ 0xA6 ∷ []
unfolding form_of packed spelling_by
cut_escape = refl

-- by alphabets of which the first begins with an accent: ZSCII 155 is Z-character 6 there, and `a` is escaped
by_own_alphabets : form_of (155 ∷ drop 1 default_alphabets) (155 ∷ 97 ∷ 98 ∷ [])
    ≡ 0x18 ∷ 0xA6 ∷ 0x0C ∷ 0x27 ∷ 0x94 ∷ 0xA5 ∷ []
unfolding form_of packed spelling_by
by_own_alphabets = refl

-- Static memory begins at 100, with the story's dictionary: the word `take` at 107. A text buffer is at 64, a parse
-- buffer of three slots at 76, and a dictionary of two words in no order at 113: `take` at 117, `it` at 123.
abbrev memory_of_text : List ℕ → List ℕ
memory_of_text text =
    replicate 9 0 ++ (100 ∷ []) ++ replicate 5 0 ++ (100 ∷ []) ++ replicate 48 0 ++ (10 ∷ 7 ∷ []) ++ text ++
    (0 ∷ 0 ∷ 0 ∷ 3 ∷ []) ++ replicate 23 9 ++ (3 ∷ codes ".,\"") ++ (6 ∷ 0 ∷ 1 ∷ []) ++
    (0x64 ∷ 0xD0 ∷ 0x28 ∷ 0xA5 ∷ 0x94 ∷ 0xA5 ∷ []) ++ (0 ∷ 6 ∷ 0xFF ∷ 0xFE ∷ []) ++
    (0x64 ∷ 0xD0 ∷ 0x28 ∷ 0xA5 ∷ 0x94 ∷ 0xA5 ∷ []) ++ (0x3B ∷ 0x25 ∷ 0x14 ∷ 0xA5 ∷ 0x94 ∷ 0xA5 ∷ [])

abbrev memory : List ℕ
memory = memory_of_text (codes "take,it")

-- `take`, the comma and `it` by the story's dictionary
by_the_story : take 14 (drop 76 (with_slots default_alphabets memory 64 76 100 0))
    ≡ 3 ∷ 3 ∷ 0 ∷ 107 ∷ 4 ∷ 2 ∷ 0 ∷ 0 ∷ 1 ∷ 6 ∷ 0 ∷ 0 ∷ 2 ∷ 7 ∷ []
unfolding form_of entry_with_form entry_of first_words words_of number_of_key key_at packed spelling_by
by_the_story = refl

-- with the flag, words that are not found leave their slots
with_flag : take 14 (drop 76 (with_slots default_alphabets memory 64 76 100 1))
    ≡ 3 ∷ 3 ∷ 0 ∷ 107 ∷ 4 ∷ 2 ∷ 9 ∷ 9 ∷ 9 ∷ 9 ∷ 9 ∷ 9 ∷ 9 ∷ 9 ∷ []
unfolding form_of entry_with_form entry_of first_words words_of number_of_key key_at packed spelling_by
with_flag = refl

-- the other dictionary names no separators, and its entries are in no order
in_no_order : take 10 (drop 76 (with_slots default_alphabets (memory_of_text (codes "it take")) 64 76 113 0))
    ≡ 3 ∷ 2 ∷ 0 ∷ 123 ∷ 2 ∷ 2 ∷ 0 ∷ 117 ∷ 4 ∷ 5 ∷ []
unfolding form_of entry_with_form entry_of first_words words_of number_of_key key_at packed spelling_by
in_no_order = refl

-- a byte 0 ends a text
zero_ends : take 10 (drop 76 (with_slots default_alphabets (memory_of_text (codes "it" ++ 0 ∷ codes "take")) 64 76 113 0))
    ≡ 3 ∷ 1 ∷ 0 ∷ 123 ∷ 2 ∷ 2 ∷ 9 ∷ 9 ∷ 9 ∷ 9 ∷ []
unfolding form_of entry_with_form entry_of first_words words_of number_of_key key_at packed spelling_by
zero_ends = refl

-- fuel is spent for another dictionary than the story's: two words with two entries of six bytes, and where there is one
-- slot, one word
searches_another : searched_bytes (memory_of_text (codes "it take")) 64 76 113 ≡ 24
unfolding first_words words_of
searches_another = refl

searches_for_slots : searched_bytes (memory_of_text (codes "it take")) 64 106 113 ≡ 12
unfolding first_words words_of
searches_for_slots = refl

searches_its_own : searched_bytes (memory_of_text (codes "it take")) 64 76 100 ≡ 0
searches_its_own = refl

-- with 22 entries
searches_more : spend_search 64 76 113 0 (first_state (slice_set (memory_of_text (codes "it take")) 116 0xEA))
    ≡ halt (places.Limit limits.Fuel) (first_state (slice_set (memory_of_text (codes "it take")) 116 0xEA))
unfolding spend_search first_words words_of spend_for
searches_more = refl

-- the memory of the samples, in a state
abbrev state : State
state = first_state memory

-- M3 for a text and for a dictionary that do not end in memory, M12 for slots that do not end in dynamic memory
no_text : test_letters 128 state ≡ fault faults.Read state
unfolding test_letters
no_text = refl

no_dictionary : test_dictionary 120 state ≡ fault faults.Read state
unfolding test_dictionary
no_dictionary = refl

-- where it is the story's own that does not end in memory, its words are unknown
abbrev cut_off : List ℕ
cut_off = slice_set memory 106 9

own_dictionary : test_dictionary 0 (first_state cut_off) ≡ done tt (first_state cut_off)
unfolding test_dictionary
own_dictionary = refl

own_by_number : test_dictionary 100 (first_state cut_off) ≡ done tt (first_state cut_off)
unfolding test_dictionary
own_by_number = refl

all_unknown : take 14 (drop 76 (with_slots default_alphabets cut_off 64 76 100 0))
    ≡ 3 ∷ 3 ∷ 0 ∷ 0 ∷ 4 ∷ 2 ∷ 0 ∷ 0 ∷ 1 ∷ 6 ∷ 0 ∷ 0 ∷ 2 ∷ 7 ∷ []
unfolding form_of entry_with_form entry_of first_words words_of number_of_key key_at packed spelling_by
all_unknown = refl

in_the_header : test_slots 63 state ≡ fault faults.Buffer state
unfolding test_slots
in_the_header = refl

-- byte 0 is 9
too_many_slots : test_slots 77 state ≡ fault faults.Buffer state
unfolding test_slots
too_many_slots = refl

-- `it` is encoded from the text buffer; the address is a sum modulo 65,536
abbrev at_150 : Next
at_150 = record { program_counter = 150; fuel = 5 }

encoded_it : encode_text default_alphabets at_150 156 66 2 5 90 state ≡ done (record at_150 { program_counter = 156 })
    (record state { memory = take 90 memory ++ (0x3B ∷ 0x25 ∷ 0x14 ∷ 0xA5 ∷ 0x94 ∷ 0xA5 ∷ []) ++ drop 96 memory })
unfolding encode_text form_at write_bytes form_of packed spelling_by
encoded_it = refl

sum_of_words : encode_text default_alphabets at_150 156 65535 2 72 90 state ≡ encode_text default_alphabets at_150 156 66 2 5 90 state
unfolding encode_text form_at write_bytes form_of packed spelling_by
sum_of_words = refl

beyond_memory : encode_text default_alphabets at_150 156 128 2 0 90 state ≡ fault faults.Read state
unfolding encode_text form_at
beyond_memory = refl

beyond_dynamic_memory : encode_text default_alphabets at_150 156 66 2 5 95 state ≡ fault faults.Write state
unfolding encode_text form_at write_bytes form_of packed spelling_by
beyond_dynamic_memory = refl
