-- The parts of opcodes on small objects: none of them ends a turn by waiting.
use Rattle.std.proofs.Common.{ℕ, ◌+◌, ◌-◌, ◌/◌, Option, Some, None}
use Rattle.std.specs.Prelude.{◌==◌, ◌&&◌, nat_le, nat_lt}
use Rattle.zcore.specs.declared.place.Fault.{Fault}
use Rattle.zcore.specs.declared.place.Fault.TheVariants as faults
use Rattle.zcore.specs.declared.place.Place.TheVariants as places
use Rattle.zcore.specs.State.{done, halt}
use Rattle.zcore.specs.Header.{defaults_of, static_end}
use Rattle.zcore.specs.Entries.{Link, Parent, Sibling, Child}
use Rattle.zcore.specs.Objects.{linked}
use Rattle.zcore.specs.ObjectProperties.{listed, place_behind}
use Rattle.zcore.specs.Properties.{Property, Standing, Terminator, Listed, Beyond, list_start}
use Rattle.zcore.proofs.WaitingTests.{Waits, waits_done, waits_fault, waits_then, waits_either, waits_chosen}
use Rattle.zcore.proofs.WaitingTests.{waits_test}
use Rattle.zcore.proofs.WaitingParts.{waits_write_byte, waits_read_byte, waits_read_word}
use Rattle.zcore_versions.specs.SmallObjects.{is_small_object, small_entry, small_place_of, small_attribute_place}
use Rattle.zcore_versions.specs.SmallObjects.{test_object, read_attributes, write_attributes}
use Rattle.zcore_versions.specs.SmallObjects.{tested_attributes, read_link, write_link, link_to, test_link}
use Rattle.zcore_versions.specs.SmallObjects.{test_removal, unlink, link_first, property_table}
use Rattle.zcore_versions.specs.SmallProperties.{test_property_number, standing, property_in, property_list}
use Rattle.zcore_versions.specs.SmallProperties.{property_at, search_list, find_property, tested_property}
use Rattle.zcore_versions.specs.SmallProperties.{property_length, next_place}

-- a value alone
waits_value : {A : Type 0} (a : A) → Waits (λ s. done a s)
waits_value a s t h = waits_done a s t h

-- a part that faults
waits_stop : {A : Type 0} (cause : Fault) → Waits {A = A} (λ s. halt (places.Fault cause) s)
waits_stop cause s t h = waits_fault cause s t h

-- Objects and attributes

pub waits_test_object : (object : ℕ) → Waits (test_object object)
unfolding test_object
waits_test_object object s t h = waits_test (is_small_object s.memory object) faults.Object s t h

waits_read_attributes : (object attribute : ℕ) → Waits (read_attributes object attribute)
unfolding read_attributes
waits_read_attributes object attribute s t h =
    waits_either (nat_lt attribute 32) _ _ t
    (waits_read_byte (small_attribute_place (defaults_of s.memory) object attribute) s t) (waits_value 0 s t) h

pub waits_write_attributes : (object attribute byte : ℕ) → Waits (write_attributes object attribute byte)
unfolding write_attributes
waits_write_attributes object attribute byte s t h =
    waits_either (nat_lt attribute 32) _ _ t
    (waits_write_byte (small_attribute_place (defaults_of s.memory) object attribute) byte s t) (waits_value tt s t) h

pub waits_tested_attributes : (object attribute : ℕ) → Waits (tested_attributes object attribute)
unfolding tested_attributes
waits_tested_attributes object attribute =
    waits_then _ _ (waits_test_object object) (λ _. waits_read_attributes object attribute)

-- Links

pub waits_read_link : (link : Link) → Waits (read_link link)
unfolding read_link
waits_read_link link s t h = waits_read_byte (small_place_of (defaults_of s.memory) link) s t h

waits_write_link : (link : Link) (word : ℕ) → Waits (write_link link word)
unfolding write_link
waits_write_link link word s t h = waits_write_byte (small_place_of (defaults_of s.memory) link) word s t h

waits_linked : (found : Option ℕ) → Waits (linked found)
waits_linked None = waits_stop _
waits_linked (Some at) = waits_value (Some at)

waits_test_link : (object parent : ℕ) → Waits (test_link object parent)
unfolding test_link
waits_test_link object parent s t h =
    waits_either (parent == 0) _ _ t (waits_value None s t)
    (waits_either (is_small_object s.memory parent) _ _ t
    (waits_linked (link_to s.memory object parent) s t) (waits_fault _ s t)) h

pub waits_test_removal : (object : ℕ) → Waits (test_removal object)
unfolding test_removal
waits_test_removal object =
    waits_then _ _ (waits_test_object object) (λ _.
    waits_then _ _ (waits_read_link (Parent object)) (λ parent. waits_test_link object parent))

pub waits_unlink : (link : Option ℕ) (object : ℕ) → Waits (unlink link object)
unfolding unlink
waits_unlink None object = waits_value tt
waits_unlink (Some at) object =
    waits_then _ _ (waits_read_link (Sibling object)) (λ sibling.
    waits_then _ _ (waits_write_byte at sibling) (λ _.
    waits_then _ _ (waits_write_link (Parent object) 0) (λ _. waits_write_link (Sibling object) 0)))

pub waits_link_first : (object into : ℕ) → Waits (link_first object into)
unfolding link_first
waits_link_first object into =
    waits_then _ _ (waits_read_link (Child into)) (λ child.
    waits_then _ _ (waits_write_link (Sibling object) child) (λ _.
    waits_then _ _ (waits_write_link (Parent object) into) (λ _. waits_write_link (Child into) object)))

-- Properties

pub waits_property_table : (object : ℕ) → Waits (property_table object)
unfolding property_table
waits_property_table object s t h = waits_read_word (small_entry (defaults_of s.memory) object + 7) s t h

waits_test_property_number : (number : ℕ) → Waits (test_property_number number)
unfolding test_property_number
waits_test_property_number number s t h = waits_test (nat_le 1 number && nat_le number 31) faults.Property s t h

waits_property_list : (object : ℕ) → Waits (property_list object)
unfolding property_list
waits_property_list object s t h =
    waits_then _ _ (waits_property_table object)
    (λ table. waits_then _ _ (waits_read_byte table) (λ _. waits_value (list_start s.memory table))) s t h

waits_listed : (at : Standing) → Waits (listed at)
waits_listed Terminator = waits_value None
waits_listed (Listed p) = waits_value (Some p)
waits_listed Beyond = waits_stop _

pub waits_property_at : (at : ℕ) → Waits (property_at at)
unfolding property_at
waits_property_at at s t h = waits_listed (standing s.memory (static_end s.memory) at) s t h

waits_search_list : (number start : ℕ) → Waits (search_list number start)
unfolding search_list
waits_search_list number start s t h =
    waits_listed (property_in s.memory (static_end s.memory) number start) s t h

waits_find_property : (object number : ℕ) → Waits (find_property object number)
unfolding find_property
waits_find_property object number =
    waits_then _ _ (waits_property_list object) (λ start. waits_search_list number start)

pub waits_tested_property : (object number : ℕ) → Waits (tested_property object number)
unfolding tested_property
waits_tested_property object number =
    waits_then _ _ (waits_test_object object) (λ _.
    waits_then _ _ (waits_test_property_number number) (λ _. waits_find_property object number))

pub waits_property_length : (address : ℕ) → Waits (property_length address)
unfolding property_length
waits_property_length address =
    waits_chosen (address == 0) _ _ (waits_value 0)
    (waits_then _ _ (waits_read_byte (address - 1)) (λ byte. waits_value (byte / 32 + 1)))

waits_place_behind : (found : Option Property) → Waits (place_behind found)
unfolding place_behind
waits_place_behind None = waits_stop _
waits_place_behind (Some p) = waits_value (p.address + p.size)

pub waits_next_place : (object number : ℕ) → Waits (next_place object number)
unfolding next_place
waits_next_place object number =
    waits_chosen (number == 0) _ _ (waits_property_list object)
    (waits_then _ _ (waits_find_property object number) (λ found. waits_place_behind found))
