-- What is given for the name of a file never waits.
use Rattle.std.proofs.Common.{ℕ, ◌+◌, codes, List, [], ◌∷◌, length, Option, Some, None, Result, Ok, Err, slice_index}
use Rattle.std.specs.Prelude.{◌==◌, Bool, true, false, if◌then◌else◌}
use Rattle.zcore.specs.declared.instruction.Branch.{Branch}
use Rattle.zcore.specs.declared.place.Fault.{Fault}
use Rattle.zcore.specs.Instruction.{branch_at}
use Rattle.zcore.specs.Parts.{goes_on, store_result}
use Rattle.zcore.specs.State.{Pending, State, Out}
use Rattle.zcore.proofs.WaitingEffects.{waits_branch_on, waits_test_branch}
use Rattle.zcore.proofs.WaitingParts.{waits_goes_on, waits_store_result}
use Rattle.zcore.proofs.WaitingTests.{Waits, waits_bound, waits_either, waits_fault, waits_test_result}
use Rattle.iff_files.specs.SaveFiles.{Saved, saved_in}
use Rattle.iff_files.specs.declared.fault.SaveFault.{SaveFault}
use Rattle.zcore_standard.specs.Loaded.{Loaded}
use Rattle.zcore_standard.specs.SavedStates.{state_in, take_up}
use Rattle.zcore_standard.specs.Saving.{answer, answer_saved, branch_by, file_given, given_for, is_place}
use Rattle.zcore_standard.specs.Saving.{no_file, no_name, not_after_save, place_of, reason, purpose_of, reason_of, refuse, restore_read, restored_by, restored_from}
use Rattle.zcore_standard.specs.Saving.{restored_or, saved_by, saved_or, test_branch_by, test_success}
use Rattle.zcore_standard.specs.declared.save_form.Purpose.{Purpose}
use Rattle.zcore_standard.specs.declared.save_form.Purpose.TheVariants.{Saving, Restoring}
use Rattle.zcore_standard.specs.declared.save_form.SaveForm.{SaveForm}
use Rattle.zcore_standard.specs.declared.save_form.SaveForm.TheVariants as forms

waits_branch_by : (place word fuel : ℕ) (o : Result (Branch × ℕ) Fault) → Waits (branch_by place word fuel o)
waits_branch_by place word fuel (Err cause) s t h = waits_fault cause s t h
waits_branch_by place word fuel (Ok x) s t h = waits_branch_on _ x.1 (Some x.0) _ s t h

-- a result, in the variable that a byte names
waits_result : (place word fuel : ℕ) → Waits (answer forms.Result place word fuel)
unfolding answer
waits_result place word fuel s t h =
    waits_bound (store_result (Some (slice_index s.memory place)) word s) (λ _. goes_on (place + 1) fuel) t
    (λ u e. waits_store_result (Some (slice_index s.memory place)) word s u e)
    (λ _ u _ e. waits_goes_on (place + 1) fuel u t e) h

waits_answer : (form : SaveForm) (place word fuel : ℕ) → Waits (answer form place word fuel)
unfolding answer
waits_answer forms.Branch place word fuel s t h =
    waits_branch_by place word fuel (branch_at s.memory place) s t h
waits_answer forms.Result place word fuel s t h = waits_result place word fuel s t h
waits_answer forms.Extended place word fuel s t h =
    waits_bound (store_result (Some (slice_index s.memory place)) word s) (λ _. goes_on (place + 1) fuel) t
    (λ u e. waits_store_result (Some (slice_index s.memory place)) word s u e)
    (λ _ u _ e. waits_goes_on (place + 1) fuel u t e) h

waits_branch_test : (o : Result (Branch × ℕ) Fault) → Waits (test_branch_by o)
waits_branch_test (Err cause) s t h = waits_fault cause s t h
waits_branch_test (Ok x) s t h = waits_test_branch x.1 (Some x.0) _ s t h

waits_test_success : (form : SaveForm) (place : ℕ) → Waits (test_success form place)
unfolding test_success
waits_test_success forms.Branch place s t h = waits_branch_test (branch_at s.memory place) s t h
waits_test_success forms.Result place s t h = waits_test_result (Some (slice_index s.memory place)) s t h
waits_test_success forms.Extended place s t h = waits_test_result (Some (slice_index s.memory place)) s t h

waits_refuse : (form : SaveForm) (place fuel : ℕ) (what why : List ℕ) → Waits (refuse form place fuel what why)
waits_refuse form place fuel what why s t h = waits_answer form place _ fuel _ t h

waits_answer_saved : (form : SaveForm) (place fuel number : ℕ) → Waits (answer_saved form place fuel number)
waits_answer_saved form place fuel number s t h =
    waits_either (number == 0) _ _ t (λ e. waits_answer form place _ fuel s t e)
    (λ e. waits_refuse form place fuel (codes "saved") (reason number) s t e) h

-- one of two parts
one_of : {A : Type 0} (b : Bool) (f g : State → Out A) → Waits f → Waits g → Waits (if b then f else g)
one_of true f g v w = v
one_of false f g v w = w

waits_saved : (form : SaveForm) (place fuel : ℕ) (given : List ℕ) → Waits (saved_or form place fuel given)
unfolding saved_by
waits_saved form place fuel [] = waits_answer form place _ fuel
waits_saved form place fuel (number ∷ bytes) =
    one_of (number == no_name) _ _ (waits_answer_saved form place fuel number)
    (λ s t h. waits_bound (test_success form place s) (λ _. answer_saved form place fuel number) t
    (λ u e. waits_test_success form place s u e) (λ _ u _ e. waits_answer_saved form place fuel number u t e) h)

waits_read : (loaded : Loaded) (story : List ℕ) (form : SaveForm) (place fuel : ℕ) (o : Result Saved SaveFault)
    → Waits (restore_read loaded story form place fuel o)
unfolding take_up
waits_read loaded story form place fuel (Err cause) s t h =
    waits_refuse form place fuel (codes "restored") (reason_of cause) s t h
waits_read loaded story form place fuel (Ok saved) s t h =
    waits_either (is_place story form saved.program_counter (state_in loaded saved s)) _ _ t
    (λ e. waits_answer form saved.program_counter 2 fuel (state_in loaded saved s) t e)
    (λ e. waits_refuse form place fuel (codes "restored") not_after_save s t e) h

waits_from : (loaded : Loaded) (saves : Option (List ℕ)) (form : SaveForm) (place fuel : ℕ) (bytes : List ℕ)
    → Waits (restored_from loaded saves form place fuel bytes)
waits_from loaded None form place fuel bytes s t h =
    waits_refuse form place fuel (codes "restored") (reason no_file) s t h
waits_from loaded (Some story) form place fuel bytes s t h =
    waits_read loaded story form place fuel (saved_in story (length s.memory) bytes) s t h

waits_restored : (loaded : Loaded) (form : SaveForm) (place fuel : ℕ) (given : List ℕ)
    → Waits (restored_or loaded form place fuel given)
unfolding restored_by
waits_restored loaded form place fuel [] s t h = waits_answer form place _ fuel s t h
waits_restored loaded form place fuel (number ∷ bytes) s t h =
    waits_either (number == 0) _ _ t (λ e. waits_from loaded loaded.saves form place fuel bytes s t e)
    (λ e. waits_refuse form place fuel (codes "restored") (reason number) s t e) h

waits_given : (loaded : Loaded) (form : SaveForm) (purpose : Purpose) (place fuel : ℕ) (given : List ℕ)
    → Waits (given_for loaded form purpose place fuel given)
waits_given loaded form Saving place fuel given = waits_saved form place fuel given
waits_given loaded form Restoring place fuel given = waits_restored loaded form place fuel given

pub file_given_waits : (loaded : Loaded) (form : SaveForm) (pending : Pending) (given : List ℕ) (fuel : ℕ)
    → Waits (file_given loaded form pending given fuel)
unfolding file_given
file_given_waits loaded form pending given fuel s t h =
    waits_given loaded form (purpose_of pending) (place_of pending) fuel given _ t h
