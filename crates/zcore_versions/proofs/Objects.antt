-- Opcodes on object 0: in the profile each of them is a fault, and here they make the weight fall and do not wait.
use Rattle.std.proofs.Common.{◌≡◌, ℕ, ◌+◌, ◌<◌, List, refl, Bool, true, false, cond, Option, Some, None}
use Rattle.std.proofs.Common.{slice_index}
use Rattle.std.specs.Prelude.{◌==◌, ◌&&◌, ◌||◌, nat_le}
use Rattle.std.proofs.lemmas.Bool.{eqb-true}
use Rattle.zcore.specs.declared.instruction.Branch.{Branch}
use Rattle.zcore.specs.declared.instruction.Operation.{Operation}
use Rattle.zcore.specs.declared.instruction.Operation.TheVariants as operations
use Rattle.zcore.specs.declared.place.Fault.{Fault}
use Rattle.zcore.specs.declared.place.Fault.TheVariants as faults
use Rattle.zcore.specs.declared.next.Next.{Next}
use Rattle.ztext.specs.Bytes.{word_at}
use Rattle.zcore.specs.Entries.{Link, Parent, place_of}
use Rattle.zcore.specs.Execution.{perform}
use Rattle.zcore.specs.Header.{defaults_of}
use Rattle.zcore.specs.Objects.{is_object, test_object, tested_attributes, test_attribute, set_attribute}
use Rattle.zcore.specs.Objects.{clear_attribute, read_link, jump_if_in, get_parent, give_object, get_sibling, get_child}
use Rattle.zcore.specs.Objects.{linked, link_to, test_link, test_removal, remove_object, insert_object, print_object}
use Rattle.zcore.specs.ObjectProperties.{tested_property, get_property, put_property, get_property_address}
use Rattle.zcore.specs.ObjectProperties.{get_next_property}
use Rattle.zcore.specs.Parts.{fault, test, is_readable, read_word}
use Rattle.zcore.specs.State.{State, Out, done, halt, bound, ◌>>=◌}
use Rattle.zcore.proofs.Keeping.{keeps_store_result, keeps_test_branch}
use Rattle.zcore.proofs.KeepingReads.{keeps_test_result}
use Rattle.zcore.proofs.FallsOfParts.{FallsFrom, falls_then, falls_either, goes_on_falls, branch_on_falls}
use Rattle.zcore.proofs.FallsOfEffects.{give_result_falls}
use Rattle.zcore.proofs.FallsOfObjects.{remove_object_falls}
use Rattle.zcore.proofs.WaitingTests.{Waits, waits_then, waits_chosen, waits_test_result}
use Rattle.zcore.proofs.WaitingParts.{waits_goes_on, waits_store_result}
use Rattle.zcore.proofs.WaitingEffects.{waits_branch_on, waits_test_branch, waits_give_result}
use Rattle.zcore.proofs.WaitingObjects.{waits_remove_object}
use Rattle.zcore_standard.specs.Nothing.{concerns_nothing, perform_on_nothing}
use Rattle.zcore_versions.specs.StandardLaws.{is_fault, ends_in_fault}

-- A part that ends a turn only by a fault

abbrev pub goes_on_or_faults : {A : Type 0} → Out A → Bool
goes_on_or_faults (done a s) = true
goes_on_or_faults (halt place s) = is_fault place

abbrev pub OnlyFaults : {A : Type 0} → (State → Out A) → Type 0
OnlyFaults f = (s : State) → goes_on_or_faults (f s) ≡ true

bound_faults : {A B : Type 0} (o : Out A) (k : A → State → Out B) → goes_on_or_faults o ≡ true
    → ((a : A) → OnlyFaults (k a)) → goes_on_or_faults (bound o k) ≡ true
bound_faults (done a s) k e rest = rest a s
bound_faults (halt place s) k e rest = e

then_faults : {A B : Type 0} (f : State → Out A) (k : A → State → Out B) → OnlyFaults f
    → ((a : A) → OnlyFaults (k a)) → OnlyFaults (f >>= k)
then_faults f k one rest s = bound_faults (f s) k (one s) rest

pub either_faults : {A : Type 0} (b : Bool) (o p : Out A) → goes_on_or_faults o ≡ true → goes_on_or_faults p ≡ true
    → goes_on_or_faults (cond b o p) ≡ true
either_faults true o p v w = v
either_faults false o p v w = w

pub test_faults : (b : Bool) (cause : Fault) → OnlyFaults (test b cause)
test_faults true cause s = refl
test_faults false cause s = refl

test_object_faults : (object : ℕ) → OnlyFaults (test_object object)
unfolding test_object
test_object_faults object s = test_faults (is_object s.memory object) faults.Object s

read_link_faults : (link : Link) → OnlyFaults (read_link link)
unfolding read_link read_word
read_link_faults link s =
    let at = place_of (defaults_of s.memory) link in
    either_faults (is_readable s.memory at && is_readable s.memory (at + 1)) (done (word_at s.memory at) s)
    (fault faults.Read s) refl refl

linked_faults : (at : Option ℕ) → OnlyFaults (linked at)
linked_faults None s = refl
linked_faults (Some at) s = refl

test_link_faults : (object parent : ℕ) → OnlyFaults (test_link object parent)
unfolding test_link
test_link_faults object parent s =
    either_faults (parent == 0) _ _ refl
    (either_faults (is_object s.memory parent) _ _ (linked_faults (link_to s.memory object parent) s) refl)

test_removal_faults : (object : ℕ) → OnlyFaults (test_removal object)
unfolding test_removal
test_removal_faults object =
    then_faults _ _ (test_object_faults object)
    (λ _. then_faults _ _ (read_link_faults (Parent object)) (λ parent. test_link_faults object parent))

-- Each opcode on object 0 in the profile

-- a part that goes on or faults, and then a fault
faults_then : {A : Type 0} (o : Out A) (k : A → State → Out Next) → goes_on_or_faults o ≡ true
    → ((a : A) (s : State) → ends_in_fault (k a s) ≡ true) → ends_in_fault (bound o k) ≡ true
faults_then (done a s) k e rest = rest a s
faults_then (halt place s) k e rest = e

jump_if_in_faults : (here : Next) (after : ℕ) (branch : Option Branch) (other : ℕ) (s : State)
    → ends_in_fault (jump_if_in here after branch 0 other s) ≡ true
unfolding jump_if_in test_object
jump_if_in_faults here after branch other s = refl

test_attribute_faults : (here : Next) (after : ℕ) (branch : Option Branch) (attribute : ℕ) (s : State)
    → ends_in_fault (test_attribute here after branch 0 attribute s) ≡ true
unfolding test_attribute tested_attributes test_object
test_attribute_faults here after branch attribute s = refl

set_attribute_faults : (here : Next) (after attribute : ℕ) (s : State)
    → ends_in_fault (set_attribute here after 0 attribute s) ≡ true
unfolding set_attribute tested_attributes test_object
set_attribute_faults here after attribute s = refl

clear_attribute_faults : (here : Next) (after attribute : ℕ) (s : State)
    → ends_in_fault (clear_attribute here after 0 attribute s) ≡ true
unfolding clear_attribute tested_attributes test_object
clear_attribute_faults here after attribute s = refl

get_property_faults : (here : Next) (after : ℕ) (result : Option ℕ) (number : ℕ) (s : State)
    → ends_in_fault (get_property here after result 0 number s) ≡ true
unfolding get_property tested_property test_object
get_property_faults here after result number s = refl

get_property_address_faults : (here : Next) (after : ℕ) (result : Option ℕ) (number : ℕ) (s : State)
    → ends_in_fault (get_property_address here after result 0 number s) ≡ true
unfolding get_property_address tested_property test_object
get_property_address_faults here after result number s = refl

get_next_property_faults : (here : Next) (after : ℕ) (result : Option ℕ) (number : ℕ) (s : State)
    → ends_in_fault (get_next_property here after result 0 number s) ≡ true
unfolding get_next_property test_object
get_next_property_faults here after result number s = refl

put_property_faults : (here : Next) (after number word : ℕ) (s : State)
    → ends_in_fault (put_property here after 0 number word s) ≡ true
unfolding put_property tested_property test_object
put_property_faults here after number word s = refl

get_sibling_faults : (here : Next) (after : ℕ) (result : Option ℕ) (branch : Option Branch) (s : State)
    → ends_in_fault (get_sibling here after result branch 0 s) ≡ true
unfolding get_sibling test_object
get_sibling_faults here after result branch s = refl

get_child_faults : (here : Next) (after : ℕ) (result : Option ℕ) (branch : Option Branch) (s : State)
    → ends_in_fault (get_child here after result branch 0 s) ≡ true
unfolding get_child test_object
get_child_faults here after result branch s = refl

get_parent_faults : (here : Next) (after : ℕ) (result : Option ℕ) (s : State)
    → ends_in_fault (get_parent here after result 0 s) ≡ true
unfolding get_parent test_object
get_parent_faults here after result s = refl

remove_object_faults : (here : Next) (after : ℕ) (s : State) → ends_in_fault (remove_object here after 0 s) ≡ true
unfolding remove_object test_removal test_object
remove_object_faults here after s = refl

insert_object_faults : (here : Next) (after object : ℕ) (s : State)
    → ends_in_fault (insert_object here after object 0 s) ≡ true
unfolding insert_object test_object
insert_object_faults here after object s =
    faults_then (test_removal object s) _ (test_removal_faults object s) (λ _ t. refl)

insert_no_object_faults : (here : Next) (after into : ℕ) (s : State)
    → ends_in_fault (insert_object here after 0 into s) ≡ true
unfolding insert_object test_removal test_object
insert_no_object_faults here after into s = refl

print_object_faults : (here : Next) (after : ℕ) (s : State) → ends_in_fault (print_object here after 0 s) ≡ true
unfolding print_object test_object
print_object_faults here after s = refl

-- the operand that is 0

only : (b : Bool) → (b || false) ≡ true → b ≡ true
only true e = refl
only false e = e

is_0 : (n : ℕ) → (n == 0 || false) ≡ true → n ≡ 0
is_0 n e = eqb-true n 0 (only (n == 0) e)

pub one : {P : Type 0} (a b : Bool) → (a ≡ true → P) → (b ≡ true → P) → (a || b) ≡ true → P
one true b v w e = v refl
one false b v w e = w e

one_is_0 : {P : Type 0} (m n : ℕ) → (m ≡ 0 → P) → (n ≡ 0 → P) → (m == 0 || n == 0) ≡ true → P
one_is_0 m n v w e = one (m == 0) (n == 0) (λ a. v (eqb-true m 0 a)) (λ b. w (eqb-true n 0 b)) e

-- an operation on object 0 is a fault in the profile
pub perform_nothing_faults : (operation : Operation) (here : Next) (after : ℕ) (result : Option ℕ)
    (branch : Option Branch) (values : List ℕ) (s : State) → concerns_nothing operation values ≡ true
    → ends_in_fault (perform operation here after result branch values s) ≡ true
unfolding perform
perform_nothing_faults operations.JumpIfIn here after result branch values s e =
    rw (is_0 _ e) (jump_if_in_faults here after branch (slice_index values 1) s)
perform_nothing_faults operations.TestAttribute here after result branch values s e =
    rw (is_0 _ e) (test_attribute_faults here after branch (slice_index values 1) s)
perform_nothing_faults operations.SetAttribute here after result branch values s e =
    rw (is_0 _ e) (set_attribute_faults here after (slice_index values 1) s)
perform_nothing_faults operations.ClearAttribute here after result branch values s e =
    rw (is_0 _ e) (clear_attribute_faults here after (slice_index values 1) s)
perform_nothing_faults operations.InsertObject here after result branch values s e =
    one_is_0 (slice_index values 0) (slice_index values 1)
    (λ z. rw z (insert_no_object_faults here after (slice_index values 1) s))
    (λ z. rw z (insert_object_faults here after (slice_index values 0) s)) e
perform_nothing_faults operations.GetProperty here after result branch values s e =
    rw (is_0 _ e) (get_property_faults here after result (slice_index values 1) s)
perform_nothing_faults operations.GetPropertyAddress here after result branch values s e =
    rw (is_0 _ e) (get_property_address_faults here after result (slice_index values 1) s)
perform_nothing_faults operations.GetNextProperty here after result branch values s e =
    rw (is_0 _ e) (get_next_property_faults here after result (slice_index values 1) s)
perform_nothing_faults operations.GetSibling here after result branch values s e =
    rw (is_0 _ e) (get_sibling_faults here after result branch s)
perform_nothing_faults operations.GetChild here after result branch values s e =
    rw (is_0 _ e) (get_child_faults here after result branch s)
perform_nothing_faults operations.GetParent here after result branch values s e =
    rw (is_0 _ e) (get_parent_faults here after result s)
perform_nothing_faults operations.RemoveObject here after result branch values s e =
    rw (is_0 _ e) (remove_object_faults here after s)
perform_nothing_faults operations.PrintObject here after result branch values s e =
    rw (is_0 _ e) (print_object_faults here after s)
perform_nothing_faults operations.PutProperty here after result branch values s e =
    rw (is_0 _ e) (put_property_faults here after (slice_index values 1) (slice_index values 2) s)
perform_nothing_faults _ here after result branch values s e = absurd (cc)

-- Here an operation on object 0 makes the weight fall

give_object_falls : (here : Next) (after : ℕ) (result : Option ℕ) (branch : Option Branch) (object : ℕ)
    → here.program_counter < after → FallsFrom here (give_object here after result branch object)
unfolding give_object
give_object_falls here after result branch object ahead =
    falls_then here _ _ (keeps_test_result result) (λ _.
    falls_then here _ _ (keeps_test_branch after branch (nat_le 1 object)) (λ _.
    falls_then here _ _ (keeps_store_result result object)
    (λ _. branch_on_falls here after branch (nat_le 1 object) ahead)))

pub perform_on_nothing_falls : (operation : Operation) (here : Next) (after : ℕ) (result : Option ℕ)
    (branch : Option Branch) (values : List ℕ) → here.program_counter < after
    → FallsFrom here (perform_on_nothing operation here after result branch values)
unfolding perform_on_nothing
perform_on_nothing_falls operations.JumpIfIn here after result branch values ahead = branch_on_falls here after branch
    (slice_index values 1 == 0) ahead
perform_on_nothing_falls operations.TestAttribute here after result branch values ahead = branch_on_falls here after
    branch false ahead
perform_on_nothing_falls operations.InsertObject here after result branch values ahead =
    falls_either (slice_index values 0 == 0) here _ _ (λ _. goes_on_falls here after ahead)
    (remove_object_falls here after (slice_index values 0) ahead)
perform_on_nothing_falls operations.GetProperty here after result branch values ahead = give_result_falls here after
    result 0 ahead
perform_on_nothing_falls operations.GetPropertyAddress here after result branch values ahead = give_result_falls here
    after result 0 ahead
perform_on_nothing_falls operations.GetNextProperty here after result branch values ahead = give_result_falls here
    after result 0 ahead
perform_on_nothing_falls operations.GetSibling here after result branch values ahead = give_object_falls here after
    result branch 0 ahead
perform_on_nothing_falls operations.GetChild here after result branch values ahead = give_object_falls here after
    result branch 0 ahead
perform_on_nothing_falls operations.GetParent here after result branch values ahead = give_result_falls here after
    result 0 ahead
perform_on_nothing_falls _ here after result branch values ahead = goes_on_falls here after ahead

-- and does not wait

waits_give_object : (here : Next) (after : ℕ) (result : Option ℕ) (branch : Option Branch) (object : ℕ)
    → Waits (give_object here after result branch object)
unfolding give_object
waits_give_object here after result branch object =
    waits_then _ _ (waits_test_result result) (λ _.
    waits_then _ _ (waits_test_branch after branch (nat_le 1 object)) (λ _.
    waits_then _ _ (waits_store_result result object) (λ _. waits_branch_on here after branch (nat_le 1 object))))

pub waits_perform_on_nothing : (operation : Operation) (here : Next) (after : ℕ) (result : Option ℕ)
    (branch : Option Branch) (values : List ℕ) → Waits (perform_on_nothing operation here after result branch values)
unfolding perform_on_nothing
waits_perform_on_nothing operations.JumpIfIn here after result branch values = waits_branch_on here after branch _
waits_perform_on_nothing operations.TestAttribute here after result branch values = waits_branch_on here after branch
    false
waits_perform_on_nothing operations.InsertObject here after result branch values =
    waits_chosen (slice_index values 0 == 0) _ _ (waits_goes_on after here.fuel)
    (waits_remove_object here after (slice_index values 0))
waits_perform_on_nothing operations.GetProperty here after result branch values = waits_give_result here after result
    0
waits_perform_on_nothing operations.GetPropertyAddress here after result branch values = waits_give_result here after
    result 0
waits_perform_on_nothing operations.GetNextProperty here after result branch values = waits_give_result here after
    result 0
waits_perform_on_nothing operations.GetSibling here after result branch values = waits_give_object here after result
    branch 0
waits_perform_on_nothing operations.GetChild here after result branch values = waits_give_object here after result
    branch 0
waits_perform_on_nothing operations.GetParent here after result branch values = waits_give_result here after result 0
waits_perform_on_nothing _ here after result branch values = waits_goes_on after here.fuel
