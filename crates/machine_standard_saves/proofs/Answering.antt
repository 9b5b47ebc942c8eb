-- What a story answers to what it is given for a name: by a branch or by a result.
use Rattle.std.proofs.Common.{◌≡◌, ℕ, ◌+◌, ◌-◌, Bool, true, false, List, [], ◌++◌, length, drop, refl, ap, sym}
use Rattle.std.proofs.Common.{◌∙◌, ◌⊎◌, inl, inr, arith, slice_index, subst, Some, Result, Ok, Err}
use Rattle.std.specs.Prelude.{nat_lt, IfOk}
use Rattle.std.specs.Result.{IsErrAnd}
use Rattle.std.proofs.lemmas.List.{drop-append-le, drop_all}
use Rattle.journal.specs.Recording.{Recording}
use Rattle.zcore.specs.declared.instruction.Branch.{Branch}
use Rattle.zcore.specs.declared.next.Next.{Next}
use Rattle.zcore.specs.declared.place.Fault.{Fault}
use Rattle.zcore.specs.declared.place.Place.TheVariants as places
use Rattle.zcore.specs.Instruction.{branch_at}
use Rattle.zcore.specs.Parts.{branch_on, goes_on, store_result, test_branch, test_result}
use Rattle.zcore.specs.State.{Pending, State, Out}
use Rattle.zcore_standard.specs.Saving.{answer, branch_by, is_done, notice}
use Rattle.zcore_standard.specs.Saving.{place_of, refuse}
use Rattle.zcore_standard.specs.Saving.{test_branch_by, test_success}
use Rattle.zcore_standard.specs.declared.save_form.SaveForm.{SaveForm}
use Rattle.zcore_standard.specs.declared.save_form.SaveForm.TheVariants as forms
use Rattle.machine_frames.specs.Contents.{Contents, memory_of}
use Rattle.machine_frames.specs.States.{state_of, IsSound}
use Rattle.machine_frames.specs.Went.{GoesOn, Told, Went}
use Rattle.machine_frames.specs.declared.end.End.{End}
use Rattle.machine_frames.specs.declared.end.End.TheVariants as ends
use Rattle.machine_frames.proofs.Steps.{given_up_after, goes_on_after, goes_on_still}
use Rattle.machine_frames.proofs.Steps.{told_went, went_as, went_err, went_halt, went_no_further, went_still, went_then}
use Rattle.machine_standard_saves.specs.Asked.{BranchIn, CanSucceed}

-- Parts that come after others

-- a part of another state, and of another text of the turn, that answers the same
pub told_from : {A : Type 0} (r : Result A End) {s m t : Recording Contents} {x z y : List ℕ} (f g : State → Out A)
    → GoesOn s m → g (state_of s.store x) ≡ f (state_of m.store z) → Told r m z t y f → Told r s x t y g
told_from (Ok a) f g goes e w = record { told = (goes_on_after goes w.told.0, e ∙ w.told.1) }
told_from (Err ends.Memory) f g goes e w = record { told = given_up_after goes w.told }
told_from (Err (ends.Stop place)) f g goes e w = record { told = (goes_on_after goes w.told.0, e ∙ w.told.1) }

-- the end of a text is at its length
pub at_the_end : (x : List ℕ) → drop (length x) x ≡ []
at_the_end x = drop_all (length x) x (omega arith)

-- an answer that prints nothing
pub told_at_end : {A : Type 0} (r : Result A End) {s t : Recording Contents} (x : List ℕ) {f : State → Out A}
    → Went r s t f → Told r s (drop (length x) x) t (drop (length x) x) f
told_at_end r x w = told_went r (drop (length x) x) w

-- Branches and results

pub branch_stops : (e : End) (s : Recording Contents) (place word fuel : ℕ) → IsSound s.store
    → BranchIn (memory_of s.store) place (Err e)
    → Went {A = Next} (Err e) s s (λ x. branch_by place word fuel (branch_at x.memory place) x)
branch_stops ends.Memory s place word fuel sound b = absurd b
branch_stops (ends.Stop (places.Fault cause)) s place word fuel sound b =
    went_halt s (λ x. branch_by place word fuel (branch_at x.memory place) x) sound
    (λ text. ap (λ (o : Result (Branch × ℕ) Fault). branch_by place word fuel o (state_of s.store text)) b)
branch_stops (ends.Stop _) s place word fuel sound b = absurd b

pub branch_goes : {s t : Recording Contents} (r : Result Next End) (branch : Branch) (place at after word fuel : ℕ)
    → BranchIn (memory_of s.store) place (Ok (branch, after)) → at ≡ place - 1
    → Went r s t (branch_on (record { program_counter = at; fuel = fuel }) after (Some branch) (nat_lt 0 word))
    → Went r s t (λ x. branch_by place word fuel (branch_at x.memory place) x)
branch_goes {s} {t} r branch place at after word fuel b is w =
    went_as r (λ x. branch_by place word fuel (branch_at x.memory place) x)
    (λ text. ap (λ (o : Result (Branch × ℕ) Fault). branch_by place word fuel o (state_of s.store text)) b.0)
    (subst (λ (n : ℕ). Went r s t (branch_on (record { program_counter = n; fuel = fuel }) after (Some branch) (nat_lt 0 word)))
    is w)

stored_at : {s t : Recording Contents} (r : Result (Unit {0}) End) (place word variable : ℕ)
    → variable ≡ slice_index (memory_of s.store) place → Went r s t (store_result (Some variable) word)
    → Went r s t (λ x. store_result (Some (slice_index x.memory place)) word x)
stored_at {s} r place word variable is w =
    went_as r (λ x. store_result (Some (slice_index x.memory place)) word x)
    (λ text. ap (λ (v : ℕ). store_result (Some v) word (state_of s.store text)) (sym is)) w

pub result_given : {s t : Recording Contents} (place word fuel variable : ℕ)
    → variable ≡ slice_index (memory_of s.store) place → Went (Ok tt) s t (store_result (Some variable) word)
    → Went (Ok (record { program_counter = place + 1; fuel = fuel })) s t (answer forms.Result place word fuel)
unfolding answer
result_given {s} {t} place word fuel variable is w =
    went_as (Ok (record { program_counter = place + 1; fuel = fuel })) (answer forms.Result place word fuel)
    (λ text. refl) (went_then {f = λ x. store_result (Some (slice_index x.memory place)) word x} (λ _. goes_on (place + 1) fuel)
    (stored_at (Ok tt) place word variable is w)
    (went_still t (goes_on (place + 1) fuel) w.did.0.sound (λ text. refl)))

pub result_not_given : {e : End} {s t : Recording Contents} (place word fuel variable : ℕ)
    → variable ≡ slice_index (memory_of s.store) place → Went {A = Unit {0}} (Err e) s t (store_result (Some variable) word)
    → Went {A = Next} (Err e) s t (answer forms.Result place word fuel)
unfolding answer
result_not_given {e} {s} {t} place word fuel variable is w =
    went_as (Err e) (answer forms.Result place word fuel) (λ text. refl)
    (went_no_further {f = λ x. store_result (Some (slice_index x.memory place)) word x} (λ _. goes_on (place + 1) fuel)
    (stored_at (Err e) place word variable is w))

pub by_branch : {s t : Recording Contents} (r : Result Next End) (form : SaveForm) (place word fuel : ℕ)
    → form ≡ forms.Branch → Went r s t (λ x. branch_by place word fuel (branch_at x.memory place) x)
    → Went r s t (answer form place word fuel)
unfolding answer
by_branch {s} {t} r form place word fuel is w =
    subst (λ (f : SaveForm). Went r s t (answer f place word fuel)) (sym is)
    (went_as r (answer forms.Branch place word fuel) (λ text. refl) w)

pub by_result : {s t : Recording Contents} (r : Result Next End) (form : SaveForm) (place word fuel : ℕ)
    → form ≡ forms.Result → Went r s t (answer forms.Result place word fuel) → Went r s t (answer form place word fuel)
by_result {s} {t} r form place word fuel is w =
    subst (λ (f : SaveForm). Went r s t (answer f place word fuel)) (sym is) w

pub by_extended : {s t : Recording Contents} (r : Result Next End) (form : SaveForm) (place word fuel : ℕ)
    → form ≡ forms.Extended → Went r s t (answer forms.Result place word fuel) → Went r s t (answer form place word fuel)
unfolding answer
by_extended {s} {t} r form place word fuel is w =
    subst (λ (f : SaveForm). Went r s t (answer f place word fuel)) (sym is)
    (went_as r (answer forms.Extended place word fuel) (λ text. refl) w)

-- Whether "success" is possible

test_stops : (e : End) (s : Recording Contents) (place : ℕ) → IsSound s.store
    → BranchIn (memory_of s.store) place (Err e) → Went {A = Unit {0}} (Err e) s s (test_success forms.Branch place)
unfolding test_success
test_stops ends.Memory s place sound b = absurd b
test_stops (ends.Stop (places.Fault cause)) s place sound b =
    went_halt s (test_success forms.Branch place) sound
    (λ text. ap (λ (o : Result (Branch × ℕ) Fault). test_branch_by o (state_of s.store text)) b)
test_stops (ends.Stop _) s place sound b = absurd b

pub branch_untested : (e : End) (r : Result (Unit {0}) End) (form : SaveForm) (s : Recording Contents) (place : ℕ)
    → IsErrAnd r (λ x. x ≡ e) → form ≡ forms.Branch → IsSound s.store → BranchIn (memory_of s.store) place (Err e)
    → Went r s s (test_success form place)
branch_untested e r form s place h is sound b =
    went_err r h
    (subst (λ (f : SaveForm). Went {A = Unit {0}} (Err e) s s (test_success f place)) (sym is) (test_stops e s place sound b))

pub test_goes : {s : Recording Contents} (r : Result (Unit {0}) End) (branch : Branch) (place after : ℕ)
    → BranchIn (memory_of s.store) place (Ok (branch, after)) → Went r s s (test_branch after (Some branch) true)
    → Went r s s (test_success forms.Branch place)
unfolding test_success
test_goes {s} r branch place after b w =
    went_as r (test_success forms.Branch place)
    (λ text. ap (λ (o : Result (Branch × ℕ) Fault). test_branch_by o (state_of s.store text)) b.0) w

pub test_stored : {s : Recording Contents} (r : Result (Unit {0}) End) (form : SaveForm) (place variable : ℕ)
    → (form ≡ forms.Result) ⊎ (form ≡ forms.Extended) → variable ≡ slice_index (memory_of s.store) place
    → Went r s s (test_result (Some variable)) → Went r s s (test_success form place)
unfolding test_success
test_stored {s} r form place variable is same w = elim is [
  | inl e ↦
      subst (λ (f : SaveForm). Went r s s (test_success f place)) (sym e)
      (went_as r (test_success forms.Result place)
      (λ text. ap (λ (v : ℕ). test_result (Some v) (state_of s.store text)) (sym same)) w)
  | inr e ↦
      subst (λ (f : SaveForm). Went r s s (test_success f place)) (sym e)
      (went_as r (test_success forms.Extended place)
      (λ text. ap (λ (v : ℕ). test_result (Some v) (state_of s.store text)) (sym same)) w)
]

pub is_possible : (s : Recording Contents) (f : State → Out (Unit {0})) → Went (Ok tt) s s f
    → true ≡ is_done (f (state_of s.store []))
is_possible s f w = sym (ap (λ (o : Out (Unit {0})). is_done o) (w.did.1 []))

pub is_impossible : (s : Recording Contents) (place : _) (f : State → Out (Unit {0}))
    → Went (Err (ends.Stop place)) s s f → false ≡ is_done (f (state_of s.store []))
is_impossible s place f w = sym (ap (λ (o : Out (Unit {0})). is_done o) (w.did.1 []))

pub succeeds_at : {E : Type 0} (r : Result Bool E) (form : SaveForm) (s : Contents) (place : ℕ)
    → ((pending : Pending) → (state_of s []).pending ≡ Some pending → place ≡ place_of pending)
    → IfOk r (λ can. can ≡ is_done (test_success form place (state_of s []))) → IfOk r (CanSucceed form s)
succeeds_at (Ok can) form s place at is = λ pending waits.
    is ∙ ap (λ (p : ℕ). is_done (test_success form p (state_of s []))) (at pending waits)
succeeds_at (Err e) form s place at is = tt

-- Refusals

pub noticed : {s t : Recording Contents} (r : Result Next End) (form : SaveForm) (place fuel : ℕ)
    (what why before after : List ℕ) → IsSound s.store → after ≡ before ++ notice what why
    → Went r s t (answer form place 0 fuel)
    → Told r s (drop (length before) before) t (drop (length before) after) (refuse form place fuel what why)
noticed {s} {t} r form place fuel what why before after sound is w =
    let text : drop (length before) after ≡ notice what why =
    ap (drop (length before)) is ∙ drop-append-le (length before) before (notice what why) (omega arith)
    ∙ ap (λ (l : List ℕ). l ++ notice what why) (at_the_end before) in
    subst (λ (y : List ℕ). Told r s (drop (length before) before) t y (refuse form place fuel what why)) (sym text)
    (told_from r (answer form place 0 fuel) (refuse form place fuel what why) (goes_on_still s sound) refl
    (told_went r (notice what why) w))
