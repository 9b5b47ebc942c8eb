-- What the parts of opcodes on small objects keep of a state: the lengths of the memory and of the list of frames.
use Rattle.std.proofs.Common.{ℕ, ◌+◌, ◌-◌, ◌/◌, Option, Some, None}
use Rattle.std.specs.Prelude.{◌==◌, ◌&&◌, nat_le, nat_lt}
use Rattle.zcore.specs.declared.place.Fault.TheVariants as faults
use Rattle.zcore.specs.Header.{defaults_of, static_end}
use Rattle.zcore.specs.Entries.{Link, Parent, Sibling, Child}
use Rattle.zcore.specs.Objects.{linked}
use Rattle.zcore.specs.ObjectProperties.{listed, place_behind}
use Rattle.zcore.specs.Properties.{Property, Standing, Terminator, Listed, Beyond, list_start}
use Rattle.zcore.proofs.KeepingReads.{Alike, Keeps, keeps_then, keeps_either, keeps_done, keeps_halt, chosen, never}
use Rattle.zcore.proofs.KeepingReads.{keeps_test, keeps_read_byte, keeps_read_word}
use Rattle.zcore.proofs.Keeping.{keeps_write_byte}
use Rattle.zcore_versions.specs.SmallObjects.{is_small_object, small_entry, small_place_of, small_attribute_place}
use Rattle.zcore_versions.specs.SmallObjects.{test_object, read_attributes, write_attributes}
use Rattle.zcore_versions.specs.SmallObjects.{tested_attributes, read_link, write_link, link_to, test_link}
use Rattle.zcore_versions.specs.SmallObjects.{test_removal, unlink, link_first, property_table}
use Rattle.zcore_versions.specs.SmallProperties.{test_property_number, standing, property_in, property_list}
use Rattle.zcore_versions.specs.SmallProperties.{property_at, search_list, find_property, tested_property}
use Rattle.zcore_versions.specs.SmallProperties.{property_length, next_place}

pub keeps_test_object : (object : ℕ) → Keeps (test_object object)
unfolding test_object
keeps_test_object object s t a h = keeps_test (is_small_object s.memory object) faults.Object s t a h

keeps_read_attributes : (object attribute : ℕ) → Keeps (read_attributes object attribute)
unfolding read_attributes
keeps_read_attributes object attribute s t a h =
    chosen (Alike s t) (nat_lt attribute 32) _ _ a t
    (λ _ e. keeps_read_byte (small_attribute_place (defaults_of s.memory) object attribute) s t a e)
    (λ _ e. keeps_done 0 s t a e) h

pub keeps_write_attributes : (object attribute byte : ℕ) → Keeps (write_attributes object attribute byte)
unfolding write_attributes
keeps_write_attributes object attribute byte s t a h =
    chosen (Alike s t) (nat_lt attribute 32) _ _ a t
    (λ _ e. keeps_write_byte (small_attribute_place (defaults_of s.memory) object attribute) byte s t a e)
    (λ _ e. keeps_done tt s t a e) h

pub keeps_tested_attributes : (object attribute : ℕ) → Keeps (tested_attributes object attribute)
unfolding tested_attributes
keeps_tested_attributes object attribute =
    keeps_then _ _ (keeps_test_object object) (λ _. keeps_read_attributes object attribute)

pub keeps_read_link : (link : Link) → Keeps (read_link link)
unfolding read_link
keeps_read_link link s t a h = keeps_read_byte (small_place_of (defaults_of s.memory) link) s t a h

keeps_write_link : (link : Link) (object : ℕ) → Keeps (write_link link object)
unfolding write_link
keeps_write_link link object s t a h = keeps_write_byte (small_place_of (defaults_of s.memory) link) object s t a h

keeps_linked : (found : Option ℕ) → Keeps (linked found)
keeps_linked None = keeps_halt _
keeps_linked (Some at) = keeps_done (Some at)

keeps_test_link : (object parent : ℕ) → Keeps (test_link object parent)
unfolding test_link
keeps_test_link object parent s t a h =
    chosen (Alike s t) (parent == 0) _ _ a t (λ _ e. keeps_done None s t a e)
    (λ _ e. chosen (Alike s t) (is_small_object s.memory parent) _ _ a t
    (λ _ f. keeps_linked (link_to s.memory object parent) s t a f) (λ _ f. absurd (never _ a s t f)) e) h

pub keeps_test_removal : (object : ℕ) → Keeps (test_removal object)
unfolding test_removal
keeps_test_removal object =
    keeps_then _ _ (keeps_test_object object) (λ _.
    keeps_then _ _ (keeps_read_link (Parent object)) (λ parent. keeps_test_link object parent))

pub keeps_unlink : (link : Option ℕ) (object : ℕ) → Keeps (unlink link object)
unfolding unlink
keeps_unlink None object = keeps_done tt
keeps_unlink (Some at) object =
    keeps_then _ _ (keeps_read_link (Sibling object)) (λ sibling.
    keeps_then _ _ (keeps_write_byte at sibling) (λ _.
    keeps_then _ _ (keeps_write_link (Parent object) 0) (λ _. keeps_write_link (Sibling object) 0)))

pub keeps_link_first : (object into : ℕ) → Keeps (link_first object into)
unfolding link_first
keeps_link_first object into =
    keeps_then _ _ (keeps_read_link (Child into)) (λ child.
    keeps_then _ _ (keeps_write_link (Sibling object) child) (λ _.
    keeps_then _ _ (keeps_write_link (Parent object) into) (λ _. keeps_write_link (Child into) object)))

pub keeps_property_table : (object : ℕ) → Keeps (property_table object)
unfolding property_table
keeps_property_table object s t a h = keeps_read_word (small_entry (defaults_of s.memory) object + 7) s t a h

keeps_test_property_number : (number : ℕ) → Keeps (test_property_number number)
unfolding test_property_number
keeps_test_property_number number s t a h = keeps_test (nat_le 1 number && nat_le number 31) faults.Property s t a h

keeps_property_list : (object : ℕ) → Keeps (property_list object)
unfolding property_list
keeps_property_list object s t a h =
    keeps_then _ _ (keeps_property_table object)
    (λ table. keeps_then _ _ (keeps_read_byte table) (λ _. keeps_done (list_start s.memory table))) s t a h

keeps_listed : (at : Standing) → Keeps (listed at)
keeps_listed Terminator = keeps_done None
keeps_listed (Listed p) = keeps_done (Some p)
keeps_listed Beyond = keeps_halt _

pub keeps_property_at : (at : ℕ) → Keeps (property_at at)
unfolding property_at
keeps_property_at at s t a h = keeps_listed (standing s.memory (static_end s.memory) at) s t a h

keeps_search_list : (number start : ℕ) → Keeps (search_list number start)
unfolding search_list
keeps_search_list number start s t a h =
    keeps_listed (property_in s.memory (static_end s.memory) number start) s t a h

keeps_find_property : (object number : ℕ) → Keeps (find_property object number)
unfolding find_property
keeps_find_property object number =
    keeps_then _ _ (keeps_property_list object) (λ start. keeps_search_list number start)

pub keeps_tested_property : (object number : ℕ) → Keeps (tested_property object number)
unfolding tested_property
keeps_tested_property object number =
    keeps_then _ _ (keeps_test_object object) (λ _.
    keeps_then _ _ (keeps_test_property_number number) (λ _. keeps_find_property object number))

pub keeps_property_length : (address : ℕ) → Keeps (property_length address)
unfolding property_length
keeps_property_length address =
    keeps_either (address == 0) _ _ (keeps_done 0)
    (keeps_then _ _ (keeps_read_byte (address - 1)) (λ byte. keeps_done (byte / 32 + 1)))

keeps_place_behind : (found : Option Property) → Keeps (place_behind found)
unfolding place_behind
keeps_place_behind None = keeps_halt _
keeps_place_behind (Some p) = keeps_done (p.address + p.size)

pub keeps_next_place : (object number : ℕ) → Keeps (next_place object number)
unfolding next_place
keeps_next_place object number =
    keeps_either (number == 0) _ _ (keeps_property_list object)
    (keeps_then _ _ (keeps_find_property object number) (λ found. keeps_place_behind found))
