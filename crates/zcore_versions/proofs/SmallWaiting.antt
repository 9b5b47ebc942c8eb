-- Opcodes on small objects: none of them ends a turn by waiting.
use Rattle.std.proofs.Common.{ℕ, ◌+◌, Option}
use Rattle.std.specs.Prelude.{◌==◌, nat_le}
use Rattle.zcore.specs.declared.place.Fault.TheVariants as faults
use Rattle.zcore.specs.declared.instruction.Branch.{Branch}
use Rattle.zcore.specs.declared.next.Next.{Next}
use Rattle.zcore.specs.Entries.{Parent, Sibling, Child, is_set}
use Rattle.zcore.specs.Objects.{with_bit, without_bit, give_object}
use Rattle.zcore.specs.ObjectProperties.{address_of, number_at}
use Rattle.zcore.proofs.WaitingTests.{Waits, waits_then, waits_chosen, waits_test, waits_test_result}
use Rattle.zcore.proofs.WaitingParts.{waits_read_byte, waits_store_result, waits_goes_on}
use Rattle.zcore.proofs.WaitingEffects.{waits_branch_on, waits_test_branch, waits_give_result}
use Rattle.zcore_versions.specs.Versions.{Story}
use Rattle.zcore_versions.specs.SmallObjects.{test_attribute, set_attribute, clear_attribute, jump_if_in, get_parent}
use Rattle.zcore_versions.specs.SmallObjects.{get_sibling, get_child, remove_object, insert_object, print_object}
use Rattle.zcore_versions.specs.SmallProperties.{get_property, put_property, get_property_address}
use Rattle.zcore_versions.specs.SmallProperties.{get_property_length, get_next_property}
use Rattle.zcore_versions.proofs.SmallWaitingParts.{waits_test_object, waits_write_attributes, waits_tested_attributes}
use Rattle.zcore_versions.proofs.SmallWaitingParts.{waits_read_link, waits_test_removal, waits_unlink, waits_link_first}
use Rattle.zcore_versions.proofs.SmallWaitingParts.{waits_property_table, waits_property_at, waits_tested_property}
use Rattle.zcore_versions.proofs.SmallWaitingParts.{waits_property_length}
use Rattle.zcore_versions.proofs.ForgivingFacts.{waits_first_word, waits_write_first_word}
use Rattle.zcore_versions.proofs.SmallWaitingParts.{waits_next_place}
use Rattle.zcore_versions.proofs.TextFacts.{waits_print_text}

pub waits_test_attribute : (here : Next) (after : ℕ) (branch : Option Branch) (object attribute : ℕ)
    → Waits (test_attribute here after branch object attribute)
unfolding test_attribute
waits_test_attribute here after branch object attribute =
    waits_then _ _ (waits_tested_attributes object attribute) (λ byte.
    waits_branch_on here after branch (is_set byte attribute))

pub waits_set_attribute : (here : Next) (after object attribute : ℕ)
    → Waits (set_attribute here after object attribute)
unfolding set_attribute
waits_set_attribute here after object attribute =
    waits_then _ _ (waits_tested_attributes object attribute) (λ byte.
    waits_then _ _ (waits_write_attributes object attribute (with_bit attribute byte)) (λ _.
    waits_goes_on after here.fuel))

pub waits_clear_attribute : (here : Next) (after object attribute : ℕ)
    → Waits (clear_attribute here after object attribute)
unfolding clear_attribute
waits_clear_attribute here after object attribute =
    waits_then _ _ (waits_tested_attributes object attribute) (λ byte.
    waits_then _ _ (waits_write_attributes object attribute (without_bit attribute byte)) (λ _.
    waits_goes_on after here.fuel))

pub waits_jump_if_in : (here : Next) (after : ℕ) (branch : Option Branch) (object other : ℕ)
    → Waits (jump_if_in here after branch object other)
unfolding jump_if_in
waits_jump_if_in here after branch object other =
    waits_then _ _ (waits_test_object object) (λ _.
    waits_then _ _ (waits_read_link (Parent object)) (λ parent.
    waits_branch_on here after branch (parent == other)))

pub waits_get_parent : (here : Next) (after : ℕ) (result : Option ℕ) (object : ℕ)
    → Waits (get_parent here after result object)
unfolding get_parent
waits_get_parent here after result object =
    waits_then _ _ (waits_test_object object) (λ _.
    waits_then _ _ (waits_read_link (Parent object)) (λ parent.
    waits_give_result here after result parent))

waits_give_object : (here : Next) (after : ℕ) (result : Option ℕ) (branch : Option Branch) (object : ℕ)
    → Waits (give_object here after result branch object)
unfolding give_object
waits_give_object here after result branch object =
    waits_then _ _ (waits_test_result result) (λ _.
    waits_then _ _ (waits_test_branch after branch (nat_le 1 object)) (λ _.
    waits_then _ _ (waits_store_result result object) (λ _.
    waits_branch_on here after branch (nat_le 1 object))))

pub waits_get_sibling : (here : Next) (after : ℕ) (result : Option ℕ) (branch : Option Branch) (object : ℕ)
    → Waits (get_sibling here after result branch object)
unfolding get_sibling
waits_get_sibling here after result branch object =
    waits_then _ _ (waits_test_object object) (λ _.
    waits_then _ _ (waits_read_link (Sibling object)) (λ sibling.
    waits_give_object here after result branch sibling))

pub waits_get_child : (here : Next) (after : ℕ) (result : Option ℕ) (branch : Option Branch) (object : ℕ)
    → Waits (get_child here after result branch object)
unfolding get_child
waits_get_child here after result branch object =
    waits_then _ _ (waits_test_object object) (λ _.
    waits_then _ _ (waits_read_link (Child object)) (λ child.
    waits_give_object here after result branch child))

pub waits_remove_object : (here : Next) (after object : ℕ) → Waits (remove_object here after object)
unfolding remove_object
waits_remove_object here after object =
    waits_then _ _ (waits_test_removal object) (λ link.
    waits_then _ _ (waits_unlink link object) (λ _.
    waits_goes_on after here.fuel))

pub waits_insert_object : (here : Next) (after object into : ℕ) → Waits (insert_object here after object into)
unfolding insert_object
waits_insert_object here after object into =
    waits_then _ _ (waits_test_removal object) (λ link.
    waits_then _ _ (waits_test_object into) (λ _.
    waits_then _ _ (waits_unlink link object) (λ _.
    waits_then _ _ (waits_link_first object into) (λ _.
    waits_goes_on after here.fuel))))

pub waits_print_object : (story : Story) (here : Next) (after object : ℕ) → Waits (print_object story here after object)
unfolding print_object
waits_print_object story here after object =
    waits_then _ _ (waits_test_object object) (λ _.
    waits_then _ _ (waits_property_table object) (λ table.
    waits_then _ _ (waits_read_byte table) (λ words.
    waits_chosen (words == 0) _ _ (waits_goes_on after here.fuel) (waits_print_text story here after (table + 1)))))

pub waits_get_property : (here : Next) (after : ℕ) (result : Option ℕ) (object number : ℕ)
    → Waits (get_property here after result object number)
unfolding get_property
waits_get_property here after result object number =
    waits_then _ _ (waits_tested_property object number) (λ found.
    waits_then _ _ (waits_first_word number found) (λ word.
    waits_give_result here after result word))

pub waits_put_property : (here : Next) (after object number word : ℕ)
    → Waits (put_property here after object number word)
unfolding put_property
waits_put_property here after object number word =
    waits_then _ _ (waits_tested_property object number) (λ found.
    waits_then _ _ (waits_write_first_word found word) (λ _.
    waits_goes_on after here.fuel))

pub waits_get_property_address : (here : Next) (after : ℕ) (result : Option ℕ) (object number : ℕ)
    → Waits (get_property_address here after result object number)
unfolding get_property_address
waits_get_property_address here after result object number =
    waits_then _ _ (waits_tested_property object number) (λ found.
    waits_give_result here after result (address_of found))

pub waits_get_property_length : (here : Next) (after : ℕ) (result : Option ℕ) (address : ℕ)
    → Waits (get_property_length here after result address)
unfolding get_property_length
waits_get_property_length here after result address =
    waits_then _ _ (waits_property_length address) (λ size.
    waits_give_result here after result size)

pub waits_get_next_property : (here : Next) (after : ℕ) (result : Option ℕ) (object number : ℕ)
    → Waits (get_next_property here after result object number)
unfolding get_next_property
waits_get_next_property here after result object number =
    waits_then _ _ (waits_test_object object) (λ _.
    waits_then _ _ (waits_test (nat_le number 31) faults.Property) (λ _.
    waits_then _ _ (waits_next_place object number) (λ place.
    waits_then _ _ (waits_property_at place) (λ next.
    waits_give_result here after result (number_at next)))))
