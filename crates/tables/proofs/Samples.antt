-- The definitions at worked examples.
use Rattle.std.proofs.Common.{◌≡◌, ◌++◌, ℕ, List, [], ◌∷◌, true, Some, None, refl}
use Rattle.std.specs.Prelude.{codes, replicate}
use Rattle.ztext.specs.Alphabets.{spelling_of}
use Rattle.ztext.specs.Words.{packed}
use Rattle.ztext.specs.Text.{encoded, key_of}
use Rattle.zcore.specs.Cutting.{words_of}
use Rattle.zcore.specs.Dictionary.{number_of_key}
use Rattle.zcore.specs.Entries.{Child, place_of, is_set, named_from}
use Rattle.zcore.specs.Properties.{Terminator, Listed, Beyond, found_in, property_in}
use Rattle.tables.specs.Dictionary.{dictionary_bytes}
use Rattle.tables.specs.KeyNumbers.{key_number}
use Rattle.tables.specs.declared.row.ObjectRow.{ObjectRow}
use Rattle.tables.specs.Rows.{word, sizes, name_bytes, name_words, entry_bytes, objects_bytes}

-- The dictionary

no_keys : dictionary_bytes [] ≡ 0x03 ∷ 0x2E ∷ 0x2C ∷ 0x22 ∷ 0x09 ∷ 0x00 ∷ 0x00 ∷ []
no_keys = refl

one_key : dictionary_bytes ((0x64 ∷ 0xD0 ∷ 0x28 ∷ 0xA5 ∷ 0x94 ∷ 0xA5 ∷ []) ∷ [])
    ≡ 0x03 ∷ 0x2E ∷ 0x2C ∷ 0x22 ∷ 0x09 ∷ 0x00 ∷ 0x01 ∷ 0x64 ∷ 0xD0 ∷ 0x28 ∷ 0xA5 ∷ 0x94 ∷ 0xA5 ∷ 0 ∷ 0 ∷ 0 ∷ []
one_key = refl

-- the words `lamp` and `take` in a dictionary at 864
take_number : key_number 864 (number_of_key (key_of (codes "lamp")) ∷ number_of_key (key_of (codes "take")) ∷ [])
    (number_of_key (key_of (codes "take"))) ≡ 880
unfolding number_of_key key_of packed spelling_of
take_number = refl

lamp_number : key_number 864 (number_of_key (key_of (codes "lamp")) ∷ number_of_key (key_of (codes "take")) ∷ [])
    (number_of_key (key_of (codes "lamp"))) ≡ 871
unfolding number_of_key key_of packed spelling_of
lamp_number = refl

box_number : key_number 864 (number_of_key (key_of (codes "lamp")) ∷ number_of_key (key_of (codes "take")) ∷ [])
    (number_of_key (key_of (codes "box"))) ≡ 0
unfolding number_of_key key_of packed spelling_of
box_number = refl

-- Lines

four_words : words_of (codes ".,\"") (codes "take lamp,box")
    ≡ record { place = 0; bytes = codes "take" } ∷ record { place = 5; bytes = codes "lamp" }
    ∷ record { place = 9; bytes = codes "," } ∷ record { place = 10; bytes = codes "box" } ∷ []
unfolding words_of
four_words = refl

no_words : words_of (codes ".,\"") (codes "   ") ≡ []
unfolding words_of
no_words = refl

-- a space is no word, also where the separators name it
space_named : words_of (codes " ") (codes " a b") ≡ record { place = 1; bytes = codes "a" }
    ∷ record { place = 3; bytes = codes "b" } ∷ []
unfolding words_of
space_named = refl

-- Objects

no_rows : objects_bytes [] (replicate 63 0) 64 ≡ replicate 126 0
no_rows = refl

-- an entry ends with the address of its property table
entry_ends : (row : ObjectRow) → entry_bytes row 300
    ≡ row.attributes ++ word row.parent ++ word row.sibling ++ word row.child ++ 1 ∷ 44 ∷ []
entry_ends row = refl

-- one word, two words, and 32 words, whose 64 bytes are told by 0
one_word : sizes 2 1 ≡ 0x42 ∷ []
one_word = refl

two_words : sizes 1 2 ≡ 0x81 ∷ 0x84 ∷ []
two_words = refl

most_words : sizes 63 32 ≡ 0xBF ∷ 0x80 ∷ []
most_words = refl

no_name : name_bytes [] ≡ []
no_name = refl

lamp_name : name_words (codes "brass lamp") ≡ 4
unfolding encoded packed spelling_of
lamp_name = refl

first_attribute : is_set 0x80 0 ≡ true
first_attribute = refl

last_attribute : is_set 0x01 47 ≡ true
last_attribute = refl

-- property 2 of one word, and property 1 of two words
abbrev two_properties : List ℕ
two_properties = 0x42 ∷ 0x00 ∷ 0x03 ∷ 0x81 ∷ 0x84 ∷ 0x03 ∷ 0x67 ∷ 0x03 ∷ 0x70 ∷ 0x00 ∷ []

size_found : property_in two_properties 10 2 0 ≡ Listed (record { number = 2; address = 1; size = 2 })
unfolding found_in
size_found = refl

name_found : property_in two_properties 10 1 0 ≡ Listed (record { number = 1; address = 5; size = 4 })
unfolding found_in
name_found = refl

none_found : property_in two_properties 10 3 0 ≡ Terminator
unfolding found_in
none_found = refl

-- the story ends within the size bytes, or before the terminator
cut_sizes : property_in two_properties 4 1 0 ≡ Beyond
unfolding found_in
cut_sizes = refl

cut_list : property_in two_properties 9 3 0 ≡ Beyond
unfolding found_in
cut_list = refl

-- object 1 has the child 2, whose sibling is itself; object 3 stands in object 1, which does not reach it
abbrev circle : List ℕ
circle =
    replicate 126 0 ++ (replicate 11 0 ++ 2 ∷ 0 ∷ 0 ∷ [])
    ++ (replicate 7 0 ++ 1 ∷ 0 ∷ 2 ∷ 0 ∷ 0 ∷ 0 ∷ 0 ∷ []) ++ (replicate 7 0 ++ 1 ∷ replicate 6 0)

named_first : named_from circle 0 168 2 (place_of 0 (Child 1)) 9 ≡ Some 136
unfolding named_from
named_first = refl

named_never : named_from circle 0 168 3 (place_of 0 (Child 1)) 9 ≡ None
unfolding named_from
named_never = refl
