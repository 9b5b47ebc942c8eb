-- The definitions on objects at a small table of version 3.
use Rattle.std.proofs.Common.{◌≡◌, ℕ, List, [], ◌∷◌, ◌++◌, refl}
use Rattle.std.specs.Prelude.{replicate}
use Rattle.zcore.specs.declared.place.Fault.TheVariants as faults
use Rattle.zcore.specs.declared.place.Place.TheVariants as places
use Rattle.zcore.specs.declared.next.Next.{Next}
use Rattle.zcore.specs.State.{State, Out, done, halt, ◌>>=◌}
use Rattle.zcore.specs.Parts.{read_byte, read_word, write_byte}
use Rattle.zcore.specs.ObjectProperties.{place_behind, number_at}
use Rattle.zcore.specs.Turn.{first_state}
use Rattle.zcore_versions.specs.SmallObjects.{test_object, read_attributes, write_attributes}
use Rattle.zcore_versions.specs.SmallObjects.{tested_attributes, set_attribute, read_link, write_link}
use Rattle.zcore_versions.specs.SmallObjects.{named_from, test_link, test_removal, unlink, link_first, remove_object}
use Rattle.zcore_versions.specs.SmallObjects.{insert_object, property_table}
use Rattle.zcore_versions.specs.SmallProperties.{test_property_number, property_list, search_list, find_property}
use Rattle.zcore_versions.specs.SmallProperties.{found_in, tested_property, property_at, property_length}
use Rattle.zcore_standard.specs.Forgiving.{first_word}
use Rattle.zcore_versions.specs.SmallProperties.{next_place}

-- an entry: attributes 0 to 7, parent, sibling, child, and the low byte of the address of the properties
abbrev entry : ℕ → ℕ → ℕ → ℕ → ℕ → List ℕ
entry attributes parent sibling child properties =
    attributes ∷ 0 ∷ 0 ∷ 0 ∷ parent ∷ sibling ∷ child ∷ 0 ∷ properties ∷ []

-- the defaults at 64, of which that of property 2 is 7, entries of three objects from 126 on, and a property table at
-- 153, where static memory begins at 164
abbrev memory_of : List ℕ → List ℕ → List ℕ → List ℕ
memory_of one two three =
    (3 ∷ []) ++ replicate 9 0 ++ (0 ∷ 64 ∷ 0 ∷ 0 ∷ 0 ∷ 164 ∷ []) ++ replicate 48 0 ++ (0 ∷ 0 ∷ 0 ∷ 7 ∷ []) ++ replicate 58 0
    ++ one ++ two ++ three
    -- no short name; property 5 with the word 300, property 3 with the byte 9, property 1 with three bytes
    ++ (0 ∷ 37 ∷ 1 ∷ 44 ∷ 3 ∷ 9 ∷ 65 ∷ 1 ∷ 2 ∷ 3 ∷ 0 ∷ [])

-- 1 has the children 2 and 3
abbrev family : State
family = first_state (memory_of (entry 128 0 0 2 153) (entry 0 1 3 0 153) (entry 0 1 0 0 153))

abbrev here : Next
here = record { program_counter = 300; fuel = 5 }

abbrev there : Next
there = record { program_counter = 304; fuel = 5 }

-- an attribute is set, and 31 is the last
set_last : set_attribute here 304 2 31 family
    ≡ done there (first_state (memory_of (entry 128 0 0 2 153) (0 ∷ 0 ∷ 0 ∷ 1 ∷ 1 ∷ 3 ∷ 0 ∷ 0 ∷ 153 ∷ []) (entry 0 1 0 0 153)))
unfolding set_attribute tested_attributes test_object read_attributes read_byte write_attributes write_byte
set_last = refl

-- one past the last is not set
no_attribute : set_attribute here 304 2 32 family ≡ done there family
unfolding set_attribute tested_attributes test_object read_attributes write_attributes
no_attribute = refl

-- 4's entry would reach static memory; and no object has a number above 255
no_object : set_attribute here 304 5 0 family ≡ halt (places.Fault faults.Object) family
unfolding set_attribute tested_attributes test_object
no_object = refl

-- 3 goes to the front of 1's children
moved : insert_object here 304 3 1 family
    ≡ done there (first_state (memory_of (entry 128 0 0 3 153) (entry 0 1 0 0 153) (entry 0 1 2 0 153)))
unfolding insert_object test_removal test_object read_link read_byte test_link named_from unlink write_byte write_link link_first
moved = refl

removed : remove_object here 304 2 family
    ≡ done there (first_state (memory_of (entry 128 0 0 3 153) (entry 0 0 0 0 153) (entry 0 1 0 0 153)))
unfolding remove_object test_removal test_object read_link read_byte test_link named_from unlink write_byte write_link
removed = refl

-- Properties

abbrev value_of : ℕ → State → Out ℕ
value_of number = tested_property 1 number >>= first_word number

value_of_two_bytes : value_of 5 family ≡ done 300 family
unfolding tested_property test_object test_property_number find_property property_list property_table read_word read_byte search_list found_in first_word
value_of_two_bytes = refl

value_of_a_byte : value_of 3 family ≡ done 9 family
unfolding tested_property test_object test_property_number find_property property_list property_table read_word read_byte search_list found_in first_word
value_of_a_byte = refl

first_word_of_three_bytes : value_of 1 family ≡ done 258 family
unfolding tested_property test_object test_property_number find_property property_list property_table read_word read_byte search_list found_in first_word
first_word_of_three_bytes = refl

default_value : value_of 2 family ≡ done 7 family
unfolding tested_property test_object test_property_number find_property property_list property_table read_word read_byte search_list found_in first_word
default_value = refl

no_property : value_of 32 family ≡ halt (places.Fault faults.Property) family
unfolding tested_property test_object test_property_number
no_property = refl

abbrev following : ℕ → State → Out ℕ
following number = next_place 1 number >>= property_at >>= λ found. done (number_at found)

first_number : following 0 family ≡ done 5 family
unfolding next_place property_list property_table read_word read_byte property_at
first_number = refl

next_number : following 3 family ≡ done 1 family
unfolding next_place find_property property_list property_table read_word read_byte search_list found_in place_behind property_at
next_number = refl

last_number : following 1 family ≡ done 0 family
unfolding next_place find_property property_list property_table read_word read_byte search_list found_in place_behind property_at
last_number = refl

length_of_three_bytes : property_length 160 family ≡ done 3 family
unfolding property_length read_byte
length_of_three_bytes = refl
