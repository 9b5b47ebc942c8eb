-- Opcodes on small objects: a step that goes on makes the weight of a turn fall.
use Rattle.std.proofs.Common.{ℕ, ◌+◌, ◌<◌, Option}
use Rattle.std.specs.Prelude.{◌==◌, nat_le}
use Rattle.zcore.specs.declared.place.Fault.TheVariants as faults
use Rattle.zcore.specs.declared.instruction.Branch.{Branch}
use Rattle.zcore.specs.declared.next.Next.{Next}
use Rattle.zcore.specs.Entries.{Parent, Sibling, Child, is_set}
use Rattle.zcore.specs.Objects.{with_bit, without_bit, give_object}
use Rattle.zcore.specs.ObjectProperties.{address_of, number_at}
use Rattle.zcore.proofs.KeepingReads.{keeps_test, keeps_test_result, keeps_read_byte}
use Rattle.zcore.proofs.Keeping.{keeps_store_result, keeps_test_branch}
use Rattle.zcore.proofs.FallsOfParts.{FallsFrom, falls_then, falls_either, goes_on_falls, branch_on_falls}
use Rattle.zcore.proofs.FallsOfEffects.{give_result_falls}
use Rattle.zcore_versions.specs.Versions.{Story}
use Rattle.zcore_versions.specs.SmallObjects.{test_attribute, set_attribute, clear_attribute, jump_if_in, get_parent}
use Rattle.zcore_versions.specs.SmallObjects.{get_sibling, get_child, remove_object, insert_object, print_object}
use Rattle.zcore_versions.specs.SmallProperties.{get_property, put_property, get_property_address}
use Rattle.zcore_versions.specs.SmallProperties.{get_property_length, get_next_property}
use Rattle.zcore_versions.proofs.SmallKeeping.{keeps_test_object, keeps_write_attributes, keeps_tested_attributes}
use Rattle.zcore_versions.proofs.SmallKeeping.{keeps_read_link, keeps_test_removal, keeps_unlink, keeps_link_first}
use Rattle.zcore_versions.proofs.SmallKeeping.{keeps_property_table, keeps_property_at, keeps_tested_property}
use Rattle.zcore_versions.proofs.SmallKeeping.{keeps_property_length}
use Rattle.zcore_versions.proofs.ForgivingFacts.{keeps_first_word, keeps_write_first_word}
use Rattle.zcore_versions.proofs.SmallKeeping.{keeps_next_place}
use Rattle.zcore_versions.proofs.TextFacts.{print_text_falls}

pub test_attribute_falls : (here : Next) (after : ℕ) (branch : Option Branch) (object attribute : ℕ)
    → here.program_counter < after → FallsFrom here (test_attribute here after branch object attribute)
unfolding test_attribute
test_attribute_falls here after branch object attribute ahead =
    falls_then here _ _ (keeps_tested_attributes object attribute) (λ byte.
    branch_on_falls here after branch (is_set byte attribute) ahead)

pub set_attribute_falls : (here : Next) (after object attribute : ℕ) → here.program_counter < after
    → FallsFrom here (set_attribute here after object attribute)
unfolding set_attribute
set_attribute_falls here after object attribute ahead =
    falls_then here _ _ (keeps_tested_attributes object attribute) (λ byte.
    falls_then here _ _ (keeps_write_attributes object attribute (with_bit attribute byte)) (λ _.
    goes_on_falls here after ahead))

pub clear_attribute_falls : (here : Next) (after object attribute : ℕ) → here.program_counter < after
    → FallsFrom here (clear_attribute here after object attribute)
unfolding clear_attribute
clear_attribute_falls here after object attribute ahead =
    falls_then here _ _ (keeps_tested_attributes object attribute) (λ byte.
    falls_then here _ _ (keeps_write_attributes object attribute (without_bit attribute byte)) (λ _.
    goes_on_falls here after ahead))

pub jump_if_in_falls : (here : Next) (after : ℕ) (branch : Option Branch) (object other : ℕ)
    → here.program_counter < after → FallsFrom here (jump_if_in here after branch object other)
unfolding jump_if_in
jump_if_in_falls here after branch object other ahead =
    falls_then here _ _ (keeps_test_object object) (λ _.
    falls_then here _ _ (keeps_read_link (Parent object)) (λ parent.
    branch_on_falls here after branch (parent == other) ahead))

pub get_parent_falls : (here : Next) (after : ℕ) (result : Option ℕ) (object : ℕ) → here.program_counter < after
    → FallsFrom here (get_parent here after result object)
unfolding get_parent
get_parent_falls here after result object ahead =
    falls_then here _ _ (keeps_test_object object) (λ _.
    falls_then here _ _ (keeps_read_link (Parent object)) (λ parent.
    give_result_falls here after result parent ahead))

give_object_falls : (here : Next) (after : ℕ) (result : Option ℕ) (branch : Option Branch) (object : ℕ)
    → here.program_counter < after → FallsFrom here (give_object here after result branch object)
unfolding give_object
give_object_falls here after result branch object ahead =
    falls_then here _ _ (keeps_test_result result) (λ _.
    falls_then here _ _ (keeps_test_branch after branch (nat_le 1 object)) (λ _.
    falls_then here _ _ (keeps_store_result result object) (λ _.
    branch_on_falls here after branch (nat_le 1 object) ahead)))

pub get_sibling_falls : (here : Next) (after : ℕ) (result : Option ℕ) (branch : Option Branch) (object : ℕ)
    → here.program_counter < after → FallsFrom here (get_sibling here after result branch object)
unfolding get_sibling
get_sibling_falls here after result branch object ahead =
    falls_then here _ _ (keeps_test_object object) (λ _.
    falls_then here _ _ (keeps_read_link (Sibling object)) (λ sibling.
    give_object_falls here after result branch sibling ahead))

pub get_child_falls : (here : Next) (after : ℕ) (result : Option ℕ) (branch : Option Branch) (object : ℕ)
    → here.program_counter < after → FallsFrom here (get_child here after result branch object)
unfolding get_child
get_child_falls here after result branch object ahead =
    falls_then here _ _ (keeps_test_object object) (λ _.
    falls_then here _ _ (keeps_read_link (Child object)) (λ child.
    give_object_falls here after result branch child ahead))

pub remove_object_falls : (here : Next) (after object : ℕ) → here.program_counter < after
    → FallsFrom here (remove_object here after object)
unfolding remove_object
remove_object_falls here after object ahead =
    falls_then here _ _ (keeps_test_removal object) (λ link.
    falls_then here _ _ (keeps_unlink link object) (λ _. goes_on_falls here after ahead))

pub insert_object_falls : (here : Next) (after object into : ℕ) → here.program_counter < after
    → FallsFrom here (insert_object here after object into)
unfolding insert_object
insert_object_falls here after object into ahead =
    falls_then here _ _ (keeps_test_removal object) (λ link.
    falls_then here _ _ (keeps_test_object into) (λ _.
    falls_then here _ _ (keeps_unlink link object) (λ _.
    falls_then here _ _ (keeps_link_first object into) (λ _. goes_on_falls here after ahead))))

pub print_object_falls : (story : Story) (here : Next) (after object : ℕ) → here.program_counter < after
    → FallsFrom here (print_object story here after object)
unfolding print_object
print_object_falls story here after object ahead =
    falls_then here _ _ (keeps_test_object object) (λ _.
    falls_then here _ _ (keeps_property_table object) (λ table.
    falls_then here _ _ (keeps_read_byte table) (λ words.
    falls_either (words == 0) here _ _ (λ _. goes_on_falls here after ahead)
    (print_text_falls story here after (table + 1) ahead))))

pub get_property_falls : (here : Next) (after : ℕ) (result : Option ℕ) (object number : ℕ)
    → here.program_counter < after → FallsFrom here (get_property here after result object number)
unfolding get_property
get_property_falls here after result object number ahead =
    falls_then here _ _ (keeps_tested_property object number) (λ found.
    falls_then here _ _ (keeps_first_word number found) (λ word.
    give_result_falls here after result word ahead))

pub put_property_falls : (here : Next) (after object number word : ℕ) → here.program_counter < after
    → FallsFrom here (put_property here after object number word)
unfolding put_property
put_property_falls here after object number word ahead =
    falls_then here _ _ (keeps_tested_property object number) (λ found.
    falls_then here _ _ (keeps_write_first_word found word) (λ _. goes_on_falls here after ahead))

pub get_property_address_falls : (here : Next) (after : ℕ) (result : Option ℕ) (object number : ℕ)
    → here.program_counter < after → FallsFrom here (get_property_address here after result object number)
unfolding get_property_address
get_property_address_falls here after result object number ahead =
    falls_then here _ _ (keeps_tested_property object number) (λ found.
    give_result_falls here after result (address_of found) ahead)

pub get_property_length_falls : (here : Next) (after : ℕ) (result : Option ℕ) (address : ℕ)
    → here.program_counter < after → FallsFrom here (get_property_length here after result address)
unfolding get_property_length
get_property_length_falls here after result address ahead =
    falls_then here _ _ (keeps_property_length address) (λ size. give_result_falls here after result size ahead)

pub get_next_property_falls : (here : Next) (after : ℕ) (result : Option ℕ) (object number : ℕ)
    → here.program_counter < after → FallsFrom here (get_next_property here after result object number)
unfolding get_next_property
get_next_property_falls here after result object number ahead =
    falls_then here _ _ (keeps_test_object object) (λ _.
    falls_then here _ _ (keeps_test (nat_le number 31) faults.Property) (λ _.
    falls_then here _ _ (keeps_next_place object number) (λ place.
    falls_then here _ _ (keeps_property_at place) (λ next.
    give_result_falls here after result (number_at next) ahead))))
