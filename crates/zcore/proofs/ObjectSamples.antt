-- The definitions on objects at a small table.
use Rattle.std.proofs.Common.{◌≡◌, ℕ, List, [], ◌∷◌, ◌++◌, refl}
use Rattle.std.specs.Prelude.{replicate}
use Rattle.zcore.specs.declared.place.Fault.TheVariants as faults
use Rattle.zcore.specs.declared.place.Place.TheVariants as places
use Rattle.zcore.specs.declared.next.Next.{Next}
use Rattle.zcore.specs.Entries.{named_from}
use Rattle.zcore.specs.Properties.{found_in}
use Rattle.zcore.specs.State.{State, Out, done, halt, ◌>>=◌}
use Rattle.zcore.specs.Parts.{read_byte, read_word, write_byte, write_word}
use Rattle.zcore.specs.Turn.{first_state}
use Rattle.zcore.specs.Objects.{test_object, test_attribute_number, read_attributes, write_attributes}
use Rattle.zcore.specs.Objects.{tested_attributes, set_attribute, clear_attribute, read_link, write_link, test_link}
use Rattle.zcore.specs.Objects.{test_removal, unlink, link_first, remove_object, insert_object, property_table}
use Rattle.zcore.specs.ObjectProperties.{test_property_number, property_list, search_list, find_property}
use Rattle.zcore.specs.ObjectProperties.{tested_property, property_at, property_value, write_property}
use Rattle.zcore.specs.ObjectProperties.{property_length, place_behind, next_place, number_at}

-- an entry: attributes 0 to 7, and the low bytes of parent, sibling, child and the address of the properties
abbrev pub entry : ℕ → ℕ → ℕ → ℕ → ℕ → List ℕ
entry attributes parent sibling child properties =
    attributes ∷ 0 ∷ 0 ∷ 0 ∷ 0 ∷ 0 ∷ 0 ∷ parent ∷ 0 ∷ sibling ∷ 0 ∷ child ∷ 0 ∷ properties ∷ []

-- a story's memory: the defaults at 64, of which that of property 2 is 7, entries of three objects from 190 on, and a
-- property table at 232, where static memory begins at 244
abbrev pub memory_of : List ℕ → List ℕ → List ℕ → List ℕ
memory_of one two three =
    replicate 10 0 ++ (0 ∷ 64 ∷ 0 ∷ 0 ∷ 0 ∷ 244 ∷ []) ++ replicate 51 0 ++ (7 ∷ []) ++ replicate 122 0
    ++ one ++ two ++ three
    -- no short name; property 5 with the word 300, property 3 with the byte 9, property 1 with three bytes
    ++ (0 ∷ 0x45 ∷ 1 ∷ 44 ∷ 3 ∷ 9 ∷ 0x81 ∷ 0x83 ∷ 1 ∷ 2 ∷ 3 ∷ 0 ∷ [])

abbrev pub state_of : List ℕ → List ℕ → List ℕ → State
state_of one two three = first_state (memory_of one two three)

-- object 3 stands in 1, of which 2 is the first child and the sibling of itself
abbrev pub circle : State
circle = state_of (entry 0 0 0 2 232) (entry 0 1 2 0 232) (entry 0 1 0 0 232)

-- from a child that sibling links do not reach
circle_refused : test_removal 3 circle ≡ halt (places.Fault faults.Object) circle
unfolding test_removal test_object read_link read_word test_link named_from
circle_refused = refl

-- objects 2 and 3, in this order, stand in 1
abbrev pub family : State
family = state_of (entry 0 0 0 2 232) (entry 0 1 3 0 232) (entry 0 1 0 0 232)

abbrev pub here : Next
here = record { program_counter = 300; fuel = 5 }

abbrev pub next : Next
next = record { program_counter = 304; fuel = 5 }

first_removed : remove_object here 304 2 family
    ≡ done next (state_of (entry 0 0 0 3 232) (entry 0 0 0 0 232) (entry 0 1 0 0 232))
unfolding remove_object test_removal test_object read_link read_word test_link named_from unlink write_link write_word
first_removed = refl

last_removed : remove_object here 304 3 family
    ≡ done next (state_of (entry 0 0 0 2 232) (entry 0 1 0 0 232) (entry 0 0 0 0 232))
unfolding remove_object test_removal test_object read_link read_word test_link named_from unlink write_link write_word
last_removed = refl

-- what stands in none stays as it is
none_removed : remove_object here 304 1 family ≡ done next family
unfolding remove_object test_removal test_object read_link read_word test_link unlink
none_removed = refl

-- the last child becomes the first
moved_to_the_front : insert_object here 304 3 1 family
    ≡ done next (state_of (entry 0 0 0 3 232) (entry 0 1 0 0 232) (entry 0 1 2 0 232))
unfolding insert_object test_removal test_object read_link read_word test_link named_from unlink write_link write_word
    link_first
moved_to_the_front = refl

moved_into_another : insert_object here 304 2 3 family
    ≡ done next (state_of (entry 0 0 0 3 232) (entry 0 3 0 0 232) (entry 0 1 0 2 232))
unfolding insert_object test_removal test_object read_link read_word test_link named_from unlink write_link write_word
    link_first
moved_into_another = refl

no_object_four : insert_object here 304 2 4 family ≡ halt (places.Fault faults.Object) family
unfolding insert_object test_removal test_object read_link read_word test_link named_from
no_object_four = refl

attribute_set : set_attribute here 304 1 2 family
    ≡ done next (state_of (entry 32 0 0 2 232) (entry 0 1 3 0 232) (entry 0 1 0 0 232))
unfolding set_attribute tested_attributes test_object test_attribute_number read_attributes read_byte write_attributes
    write_byte
attribute_set = refl

attribute_cleared : clear_attribute here 304 1 2 (state_of (entry 255 0 0 2 232) (entry 0 1 3 0 232)
    (entry 0 1 0 0 232))
    ≡ done next (state_of (entry 223 0 0 2 232) (entry 0 1 3 0 232) (entry 0 1 0 0 232))
unfolding clear_attribute tested_attributes test_object test_attribute_number read_attributes read_byte
    write_attributes write_byte
attribute_cleared = refl

no_attribute : set_attribute here 304 1 48 family ≡ halt (places.Fault faults.Object) family
unfolding set_attribute tested_attributes test_object test_attribute_number
no_attribute = refl

-- Properties

abbrev pub value_of : ℕ → State → Out ℕ
value_of number = tested_property 1 number >>= property_value number

value_of_two_bytes : value_of 5 family ≡ done 300 family
unfolding tested_property test_object test_property_number find_property property_list property_table read_word
    read_byte search_list found_in property_value
value_of_two_bytes = refl

value_of_a_byte : value_of 3 family ≡ done 9 family
unfolding tested_property test_object test_property_number find_property property_list property_table read_word
    read_byte search_list found_in property_value
value_of_a_byte = refl

default_value : value_of 2 family ≡ done 7 family
unfolding tested_property test_object test_property_number find_property property_list property_table read_word
    read_byte search_list found_in property_value
default_value = refl

value_of_three_bytes : value_of 1 family ≡ halt (places.Fault faults.Property) family
unfolding tested_property test_object test_property_number find_property property_list property_table read_word
    read_byte search_list found_in property_value
value_of_three_bytes = refl

no_property : value_of 64 family ≡ halt (places.Fault faults.Property) family
unfolding tested_property test_object test_property_number
no_property = refl

-- in the table's order: 5, 3, 1 and the end
abbrev pub following : ℕ → State → Out ℕ
following number = next_place 1 number >>= property_at >>= λ found. done (number_at found)

first_number : following 0 family ≡ done 5 family
unfolding next_place property_list property_table read_word read_byte property_at
first_number = refl

next_number : following 3 family ≡ done 1 family
unfolding next_place find_property property_list property_table read_word read_byte search_list found_in place_behind
    property_at
next_number = refl

last_number : following 1 family ≡ done 0 family
unfolding next_place find_property property_list property_table read_word read_byte search_list found_in place_behind
    property_at
last_number = refl

nothing_follows : following 2 family ≡ halt (places.Fault faults.Property) family
unfolding next_place find_property property_list property_table read_word read_byte search_list found_in place_behind
nothing_follows = refl

-- of one size byte, and by the second of two
length_of_two_bytes : property_length 234 family ≡ done 2 family
unfolding property_length read_byte
length_of_two_bytes = refl

length_of_three_bytes : property_length 240 family ≡ done 3 family
unfolding property_length read_byte
length_of_three_bytes = refl

length_of_nothing : property_length 0 family ≡ done 0 family
unfolding property_length
length_of_nothing = refl

-- property 3 takes the low byte; no default is written
abbrev pub put : ℕ → ℕ → State → Out (Unit {0})
put number word = tested_property 1 number >>= λ found. write_property found word

written_and_read : (put 3 511 >>= λ _. value_of 3) family ≡ (put 3 255 >>= λ _. done 255) family
unfolding tested_property test_object test_property_number find_property property_list property_table read_word
    read_byte search_list found_in property_value write_property write_byte
written_and_read = refl

default_not_written : put 2 8 family ≡ halt (places.Fault faults.Property) family
unfolding tested_property test_object test_property_number find_property property_list property_table read_word
    read_byte search_list found_in write_property
default_not_written = refl
