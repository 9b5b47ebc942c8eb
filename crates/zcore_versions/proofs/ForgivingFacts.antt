-- An operation that can forgive a slip is the profile's, or the profile refuses it. It makes the weight fall, and does
-- not wait.
use Rattle.std.proofs.Common.{◌≡◌, ℕ, ◌<◌, List, refl, Bool, true, false, cond, slice_index, ◌⊎◌, inl, inr, arith}
use Rattle.std.proofs.Common.{nat_le, nat_lt, Option, Some, None}
use Rattle.std.specs.Prelude.{◌%◌, ◌==◌}
use Rattle.std.proofs.lemmas.Bool.Decides.{nat_tests}
use Rattle.zcore.specs.declared.instruction.Branch.{Branch}
use Rattle.zcore.specs.declared.instruction.Operation.{Operation}
use Rattle.zcore.specs.declared.instruction.Operation.TheVariants as operations
use Rattle.zcore.specs.declared.next.Next.{Next}
use Rattle.zcore.specs.declared.place.Fault.{Fault}
use Rattle.zcore.specs.declared.place.Fault.TheVariants as faults
use Rattle.zcore.specs.Effects.{give_result}
use Rattle.zcore.specs.Execution.{perform}
use Rattle.zcore.specs.Header.{defaults_of}
use Rattle.zcore.specs.Layout.{attribute_count}
use Rattle.zcore.specs.ObjectProperties.{default_place, tested_property, property_value, get_property, write_property}
use Rattle.zcore.specs.ObjectProperties.{put_property}
use Rattle.zcore.specs.Objects.{is_object, test_object, test_attribute_number, read_attributes, tested_attributes}
use Rattle.zcore.specs.Objects.{test_attribute, set_attribute, clear_attribute}
use Rattle.zcore.specs.Parts.{fault, test, goes_on, read_byte, read_word, write_byte, write_word}
use Rattle.zcore.specs.Properties.{Property}
use Rattle.zcore.specs.State.{State, Out, done, halt, bound}
use Rattle.zcore.proofs.FallsOfEffects.{give_result_falls}
use Rattle.zcore.proofs.FallsOfParts.{FallsFrom, falls_then, goes_on_falls, branch_on_falls}
use Rattle.zcore.proofs.Keeping.{keeps_write_byte, keeps_write_word}
use Rattle.zcore.proofs.KeepingObjects.{keeps_test_object, keeps_tested_property}
use Rattle.zcore.proofs.KeepingReads.{Alike, Keeps, keeps_either, keeps_halt, keeps_read_byte, keeps_read_word, chosen}
use Rattle.zcore.proofs.WaitingEffects.{waits_branch_on, waits_give_result}
use Rattle.zcore.proofs.WaitingObjectParts.{waits_test_object, waits_tested_property}
use Rattle.zcore.proofs.WaitingParts.{waits_goes_on, waits_read_byte, waits_read_word, waits_write_byte}
use Rattle.zcore.proofs.WaitingParts.{waits_write_word}
use Rattle.zcore.proofs.WaitingTests.{Waits, waits_then, waits_either, waits_chosen, waits_fault}
use Rattle.zcore_standard.specs.Forgiving.{first_word, write_first_word, get_any_property, put_any_property}
use Rattle.zcore_standard.specs.Forgiving.{test_no_attribute, change_no_attribute, may_be_forgiven, perform_forgiving}
use Rattle.zcore_versions.specs.StandardLaws.{ends_in_fault}

-- Two parts that come to the same, where the second ends in no fault

abbrev pub SameOrRefused : Out Next → Out Next → Type 0
SameOrRefused ours known = (ours ≡ known) ⊎ (ends_in_fault known ≡ true)

-- after the same beginning
alike_after : {A : Type 0} (o : Out A) (ours known : A → State → Out Next)
    → ((a : A) (t : State) → SameOrRefused (ours a t) (known a t)) → SameOrRefused (bound o ours) (bound o known)
alike_after (done a t) ours known rest = rest a t
alike_after (halt place t) ours known rest = inl refl

-- the value of a property of one byte, of two, or of more
value_sized : {A : Type 0} (one two : Bool) (o p : Out A) (cause : Fault) (s : State) (k : A → State → Out Next)
    → SameOrRefused (bound (cond one o p) k) (bound (cond one o (cond two p (fault cause s))) k)
value_sized true two o p cause s k = inl refl
value_sized false true o p cause s k = inl refl
value_sized false false o p cause s k = inr refl

value_alike : (number : ℕ) (found : Option Property) (k : ℕ → State → Out Next) (s : State)
    → SameOrRefused (bound (first_word number found s) k) (bound (property_value number found s) k)
unfolding first_word property_value
value_alike number None k s = inl refl
value_alike number (Some p) k s =
    value_sized (p.size == 1) (p.size == 2) (read_byte p.address s) (read_word p.address s) faults.Property s k

get_alike : (here : Next) (after : ℕ) (result : Option ℕ) (object number : ℕ) (s : State)
    → SameOrRefused (get_any_property here after result object number s)
    (get_property here after result object number s)
unfolding get_any_property get_property
get_alike here after result object number s = alike_after (tested_property object number s) _ _
    (λ found t. value_alike number found (λ word u. give_result here after result word u) t)

write_sized : {A : Type 0} (one two : Bool) (f g : State → Out A) (cause : Fault) (s : State)
    (k : A → State → Out Next)
    → SameOrRefused (bound (cond one f g s) k) (bound (cond one f (cond two g (fault cause)) s) k)
write_sized true two f g cause s k = inl refl
write_sized false true f g cause s k = inl refl
write_sized false false f g cause s k = inr refl

write_alike : (found : Option Property) (word : ℕ) (k : Unit {0} → State → Out Next) (s : State)
    → SameOrRefused (bound (write_first_word found word s) k) (bound (write_property found word s) k)
unfolding write_first_word write_property
write_alike None word k s = inl refl
write_alike (Some p) word k s =
    write_sized (p.size == 1) (p.size == 2) (write_byte p.address (word % 256)) (write_word p.address word)
    faults.Property s k

put_alike : (here : Next) (after object number word : ℕ) (s : State)
    → SameOrRefused (put_any_property here after object number word s)
    (put_property here after object number word s)
unfolding put_any_property put_property
put_alike here after object number word s = alike_after (tested_property object number s) _ _
    (λ found t. write_alike found word (λ _ u. goes_on after here.fuel u) t)

-- an attribute past the greatest is a fault in the profile

not_below : (limit n : ℕ) → nat_le limit n ≡ true → nat_lt n limit ≡ false
not_below limit n e = grind (arith, nat_tests)

two_tests : {A : Type 0} (b c : Bool) (cause other : Fault) (s : State) (k : State → Out A) → c ≡ false
    → ends_in_fault (bound (test b cause s) (λ _ t. bound (test c other t) (λ _ u. k u))) ≡ true
two_tests false c cause other s k e = refl
two_tests true true cause other s k e = absurd (cc)
two_tests true false cause other s k e = refl

past_tested : (object attribute : ℕ) (s : State) → nat_le attribute_count attribute ≡ true
    → ends_in_fault (tested_attributes object attribute s) ≡ true
unfolding tested_attributes test_object test_attribute_number
past_tested object attribute s e = two_tests (is_object s.memory object) (nat_lt attribute attribute_count)
    faults.Object faults.Object s (λ u. read_attributes object attribute u) (not_below attribute_count attribute e)

fault_stays : {A : Type 0} (o : Out A) (k : A → State → Out Next) → ends_in_fault o ≡ true
    → ends_in_fault (bound o k) ≡ true
fault_stays (done a s) k e = absurd (cc)
fault_stays (halt place s) k e = e

test_refused : (here : Next) (after : ℕ) (branch : Option Branch) (object attribute : ℕ) (s : State)
    → nat_le attribute_count attribute ≡ true
    → ends_in_fault (test_attribute here after branch object attribute s) ≡ true
unfolding test_attribute
test_refused here after branch object attribute s e =
    fault_stays (tested_attributes object attribute s) _ (past_tested object attribute s e)

set_refused : (here : Next) (after object attribute : ℕ) (s : State) → nat_le attribute_count attribute ≡ true
    → ends_in_fault (set_attribute here after object attribute s) ≡ true
unfolding set_attribute
set_refused here after object attribute s e =
    fault_stays (tested_attributes object attribute s) _ (past_tested object attribute s e)

clear_refused : (here : Next) (after object attribute : ℕ) (s : State) → nat_le attribute_count attribute ≡ true
    → ends_in_fault (clear_attribute here after object attribute s) ≡ true
unfolding clear_attribute
clear_refused here after object attribute s e =
    fault_stays (tested_attributes object attribute s) _ (past_tested object attribute s e)

-- any of these operations
pub forgiving_alike : (operation : Operation) (here : Next) (after : ℕ) (result : Option ℕ) (branch : Option Branch)
    (values : List ℕ) (s : State) → may_be_forgiven operation values ≡ true
    → SameOrRefused (perform_forgiving operation here after result branch values s)
    (perform operation here after result branch values s)
unfolding perform_forgiving perform
forgiving_alike operations.TestAttribute here after result branch values s e =
    inr (test_refused here after branch (slice_index values 0) (slice_index values 1) s e)
forgiving_alike operations.SetAttribute here after result branch values s e =
    inr (set_refused here after (slice_index values 0) (slice_index values 1) s e)
forgiving_alike operations.ClearAttribute here after result branch values s e =
    inr (clear_refused here after (slice_index values 0) (slice_index values 1) s e)
forgiving_alike operations.GetProperty here after result branch values s e =
    get_alike here after result (slice_index values 0) (slice_index values 1) s
forgiving_alike operations.PutProperty here after result branch values s e =
    put_alike here after (slice_index values 0) (slice_index values 1) (slice_index values 2) s
forgiving_alike _ here after result branch values s e = absurd (cc)

-- The weight falls

pub keeps_first_word : (number : ℕ) (found : Option Property) → Keeps (first_word number found)
unfolding first_word
keeps_first_word number None s t a h = keeps_read_word (default_place (defaults_of s.memory) number) s t a h
keeps_first_word number (Some p) s t a h =
    chosen (Alike s t) (p.size == 1) _ _ a t (λ _ e. keeps_read_byte p.address s t a e)
    (λ _ e. keeps_read_word p.address s t a e) h

pub keeps_write_first_word : (found : Option Property) (word : ℕ) → Keeps (write_first_word found word)
unfolding write_first_word
keeps_write_first_word None word = keeps_halt _
keeps_write_first_word (Some p) word =
    keeps_either (p.size == 1) _ _ (keeps_write_byte p.address (word % 256)) (keeps_write_word p.address word)

get_any_falls : (here : Next) (after : ℕ) (result : Option ℕ) (object number : ℕ) → here.program_counter < after
    → FallsFrom here (get_any_property here after result object number)
unfolding get_any_property
get_any_falls here after result object number ahead =
    falls_then here _ _ (keeps_tested_property object number) (λ found.
    falls_then here _ _ (keeps_first_word number found) (λ word. give_result_falls here after result word ahead))

put_any_falls : (here : Next) (after object number word : ℕ) → here.program_counter < after
    → FallsFrom here (put_any_property here after object number word)
unfolding put_any_property
put_any_falls here after object number word ahead =
    falls_then here _ _ (keeps_tested_property object number) (λ found.
    falls_then here _ _ (keeps_write_first_word found word) (λ _. goes_on_falls here after ahead))

test_no_falls : (here : Next) (after : ℕ) (branch : Option Branch) (object : ℕ) → here.program_counter < after
    → FallsFrom here (test_no_attribute here after branch object)
unfolding test_no_attribute
test_no_falls here after branch object ahead =
    falls_then here _ _ (keeps_test_object object) (λ _. branch_on_falls here after branch false ahead)

change_no_falls : (here : Next) (after object : ℕ) → here.program_counter < after
    → FallsFrom here (change_no_attribute here after object)
unfolding change_no_attribute
change_no_falls here after object ahead =
    falls_then here _ _ (keeps_test_object object) (λ _. goes_on_falls here after ahead)

pub perform_forgiving_falls : (operation : Operation) (here : Next) (after : ℕ) (result : Option ℕ)
    (branch : Option Branch) (values : List ℕ) → here.program_counter < after
    → FallsFrom here (perform_forgiving operation here after result branch values)
unfolding perform_forgiving
perform_forgiving_falls operations.TestAttribute here after result branch values ahead =
    test_no_falls here after branch (slice_index values 0) ahead
perform_forgiving_falls operations.GetProperty here after result branch values ahead =
    get_any_falls here after result (slice_index values 0) (slice_index values 1) ahead
perform_forgiving_falls operations.PutProperty here after result branch values ahead =
    put_any_falls here after (slice_index values 0) (slice_index values 1) (slice_index values 2) ahead
perform_forgiving_falls _ here after result branch values ahead =
    change_no_falls here after (slice_index values 0) ahead

-- and nothing waits

pub waits_first_word : (number : ℕ) (found : Option Property) → Waits (first_word number found)
unfolding first_word
waits_first_word number None s t h = waits_read_word (default_place (defaults_of s.memory) number) s t h
waits_first_word number (Some p) s t h =
    waits_either (p.size == 1) _ _ t (waits_read_byte p.address s t) (waits_read_word p.address s t) h

pub waits_write_first_word : (found : Option Property) (word : ℕ) → Waits (write_first_word found word)
unfolding write_first_word
waits_write_first_word None word s t h = waits_fault _ s t h
waits_write_first_word (Some p) word s t h =
    waits_chosen (p.size == 1) _ _ (waits_write_byte p.address (word % 256)) (waits_write_word p.address word) s t h

waits_get_any : (here : Next) (after : ℕ) (result : Option ℕ) (object number : ℕ)
    → Waits (get_any_property here after result object number)
unfolding get_any_property
waits_get_any here after result object number =
    waits_then _ _ (waits_tested_property object number) (λ found.
    waits_then _ _ (waits_first_word number found) (λ word. waits_give_result here after result word))

waits_put_any : (here : Next) (after object number word : ℕ)
    → Waits (put_any_property here after object number word)
unfolding put_any_property
waits_put_any here after object number word =
    waits_then _ _ (waits_tested_property object number) (λ found.
    waits_then _ _ (waits_write_first_word found word) (λ _. waits_goes_on after here.fuel))

waits_test_no : (here : Next) (after : ℕ) (branch : Option Branch) (object : ℕ)
    → Waits (test_no_attribute here after branch object)
unfolding test_no_attribute
waits_test_no here after branch object =
    waits_then _ _ (waits_test_object object) (λ _. waits_branch_on here after branch false)

waits_change_no : (here : Next) (after object : ℕ) → Waits (change_no_attribute here after object)
unfolding change_no_attribute
waits_change_no here after object =
    waits_then _ _ (waits_test_object object) (λ _. waits_goes_on after here.fuel)

pub waits_perform_forgiving : (operation : Operation) (here : Next) (after : ℕ) (result : Option ℕ)
    (branch : Option Branch) (values : List ℕ) → Waits (perform_forgiving operation here after result branch values)
unfolding perform_forgiving
waits_perform_forgiving operations.TestAttribute here after result branch values =
    waits_test_no here after branch (slice_index values 0)
waits_perform_forgiving operations.GetProperty here after result branch values =
    waits_get_any here after result (slice_index values 0) (slice_index values 1)
waits_perform_forgiving operations.PutProperty here after result branch values =
    waits_put_any here after (slice_index values 0) (slice_index values 1) (slice_index values 2)
waits_perform_forgiving _ here after result branch values = waits_change_no here after (slice_index values 0)
