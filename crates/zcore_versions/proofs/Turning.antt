-- Turns of the machine of any version: each has one end, and reaches it within its weight. In versions 5 and 8 they
-- are the Standard's.
use Rattle.std.proofs.Common.{◌≡◌, ℕ, zero, suc, ◌⊎◌, inl, inr, List, length, refl, ap, ◌∙◌, arith, Bool, true, false, cond}
use Rattle.std.proofs.Common.{Option, Some, None}
use Rattle.std.specs.Prelude.{◌==◌, ◌||◌, nat_le}
use Rattle.std.proofs.lemmas.Bool.{eqb-true}
use Rattle.zcore.specs.declared.next.Next.{Next}
use Rattle.zcore.specs.declared.place.Place.{Place}
use Rattle.zcore.specs.Parts.{is_code}
use Rattle.zcore.specs.State.{Pending, State, Out, done, halt}
use Rattle.zcore.specs.Turn.{StateOfPlay, Whole, TurnsBy, after_step, turn_by, weight, resumed}
use Rattle.zcore.proofs.Turning.{IsWeight, weight_some, turn_by_ends, turns_by_same}
use Rattle.zcore_standard.specs.Place.{Here}
use Rattle.zcore_standard.specs.Machine.{standard, standard_step, standard_ended, standard_turn, standard_pending}
use Rattle.zcore_standard.specs.Machine.{standard_turn_on, begins_after}
use Rattle.zcore_standard.specs.Reading.{standard_given}
use Rattle.zcore_standard.specs.Saving.{given_to, save_form_of}
use Rattle.zcore_standard.specs.declared.save_form.SaveForm.{SaveForm}
use Rattle.zcore_standard.specs.declared.save_form.SaveForm.TheVariants as forms
use Rattle.zcore_versions.specs.declared.version.StoryVersion.{StoryVersion}
use Rattle.zcore_versions.specs.declared.operations.VersionOperation.{VersionOperation}
use Rattle.zcore_versions.specs.Versions.{Story, is_late, is_old}
use Rattle.zcore_versions.specs.Laws.{EndsOneWay, IsStandard}
use Rattle.zcore_versions.specs.Machine.{chosen, any, any_step, any_turn, any_pending, any_turn_on}
use Rattle.zcore_versions.specs.Operations.{older_at}
use Rattle.zcore_versions.specs.Reading.{older_given, any_given}
use Rattle.zcore.specs.Execution.{step}
use Rattle.zcore_standard.specs.Place.{within}
use Rattle.zcore_versions.specs.StandardLaws.{ends_in_fault, closes_none}
use Rattle.zcore_versions.proofs.StandardTurning.{standard_steps}
use Rattle.zcore_versions.proofs.Stepping.{any_step_lighter}

-- Ends

abbrev weighs : Here → State → ℕ
weighs here s = weight here.next s

pub any_weight : (story : Story) → IsWeight (any story) weighs
any_weight story = record {
  some = λ here s. weight_some here.next s;
  falls = λ here next s t e. (any_step_lighter story here next s t e).falls;
}

pub any_ends : (story : Story) (here : Here) (s : State) → (whole : Whole) × (any_turn story here s ≡ Some whole)
unfolding any_turn
any_ends story here s = turn_by_ends (any story) weighs (any_weight story) (weighs here s) here s (omega arith)

pub is_any_turn : (story : Story) (here : Here) (s : State) (whole : Whole) → any_turn story here s ≡ Some whole
    → TurnsBy (any story) here s whole
unfolding any_turn
is_any_turn story here s whole e = record { count = weighs here s; ends = e }

-- the turn is what the function gives
pub any_turn_is : (story : Story) (here : Here) (s : State) (whole : Whole) → TurnsBy (any story) here s whole
    → any_turn story here s ≡ Some whole
any_turn_is story here s whole turn =
    let e = any_ends story here s in
    let same = turns_by_same (any story) here s e.0 whole (is_any_turn story here s e.0 e.1) turn in
    e.1 ∙ ap (λ w. Some w) same

pub any_ends_once : (story : Story) (here : Here) (s : State) → EndsOneWay story here s
any_ends_once story here s =
    let e = any_ends story here s in
    let turn = is_any_turn story here s e.0 e.1 in
    record {
      whole = e.0;
      ends = turn;
      found = e.1;
      only = λ other u. turns_by_same (any story) here s other e.0 u turn;
    }

-- Versions 5 and 8

either_of : (a b : Bool) → (a || b) ≡ true → (a ≡ true) ⊎ (b ≡ true)
either_of true b h = inl refl
either_of false b h = inr h

none_either : (b : Bool) (o p : Option VersionOperation) → o ≡ None → p ≡ None → cond b o p ≡ None
none_either true o p e f = e
none_either false o p e f = f

none_late : (b : Bool) (o : Option VersionOperation) → b ≡ true → cond b None o ≡ None
none_late true o e = refl
none_late false o e = absurd (cc)

late_none : (version : StoryVersion) (memory : List ℕ) (at : ℕ) → is_late version ≡ true
    → older_at version memory at ≡ None
late_none version memory at late = none_either (is_code memory at) _ None (none_late (is_late version) _ late) refl

abbrev is_old_number : ℕ → Bool
is_old_number number = nat_le number 4

not_old_of : (number : ℕ) → ((number == 5) ≡ true) ⊎ ((number == 8) ≡ true) → is_old_number number ≡ false
not_old_of number (inl e) = ap is_old_number (eqb-true number 5 e)
not_old_of number (inr e) = ap is_old_number (eqb-true number 8 e)

late_steps : (story : Story) (here : Here) (s : State) → is_late story.version ≡ true
    → any_step story here s ≡ standard_step story.loaded here s
unfolding any_step
late_steps story here s late =
    ap (λ o. chosen story o here s) (late_none story.version s.memory here.next.program_counter late)

after_alike : {H A : Type 0} (o : Out H) (g h : H → State → A) (p q : Place → State → A)
    → ((x : H) (t : State) → g x t ≡ h x t) → ((x : Place) (t : State) → p x t ≡ q x t)
    → after_step o g p ≡ after_step o h q
after_alike (done x t) g h p q e f = e x t
after_alike (halt x t) g h p q e f = f x t

turn_alike : (story : Story) (count : ℕ) (here : Here) (s : State) → is_late story.version ≡ true
    → turn_by (any story) count here s ≡ turn_by (standard story.loaded) count here s
turn_alike story zero here s late = refl
turn_alike story (suc count) here s late =
    ap (λ o. after_step o (turn_by (any story) count) (λ place t. Some (standard_ended here place t)))
    (late_steps story here s late)
    ∙ after_alike (standard_step story.loaded here s) (turn_by (any story) count)
    (turn_by (standard story.loaded) count) (λ place t. Some (standard_ended here place t))
    (λ place t. Some (standard_ended here place t)) (λ x t. turn_alike story count x t late) (λ place t. refl)

late_turns : (story : Story) (here : Here) (s : State) → is_late story.version ≡ true
    → any_turn story here s ≡ standard_turn story.loaded here s
unfolding any_turn standard_turn
late_turns story here s late = turn_alike story (weight here.next s) here s late

given_if : (b : Bool) (f g : Pending → List ℕ → ℕ → State → Out Next) → b ≡ false → cond b f g ≡ g
given_if true f g e = absurd (cc)
given_if false f g e = refl

late_given : (story : Story) → is_late story.version ≡ true → any_given story ≡ standard_given story.loaded
late_given story late = given_if (is_old story.version) (older_given story) (standard_given story.loaded)
    (not_old_of story.version.number (either_of (story.version.number == 5) (story.version.number == 8) late))

late_form : (number : ℕ) → ((number == 5) ≡ true) ⊎ ((number == 8) ≡ true) → save_form_of number ≡ forms.Extended
late_form number (inl e) = ap (λ (n : ℕ). save_form_of n) (eqb-true number 5 e)
late_form number (inr e) = ap (λ (n : ℕ). save_form_of n) (eqb-true number 8 e)

late_given_to : (story : Story) → is_late story.version ≡ true
    → given_to story.loaded (save_form_of story.version.number) (any_given story)
    ≡ given_to story.loaded forms.Extended (standard_given story.loaded)
late_given_to story late =
    ap (λ f. given_to story.loaded (save_form_of story.version.number) f) (late_given story late)
    ∙ ap (λ (f : SaveForm). given_to story.loaded f (standard_given story.loaded))
    (late_form story.version.number (either_of (story.version.number == 5) (story.version.number == 8) late))

pending_alike : (story : Story) (pending : Option Pending) (line : List ℕ) (fuel : ℕ) (play : StateOfPlay)
    → is_late story.version ≡ true
    → any_pending story pending line fuel play ≡ standard_pending story.loaded pending line fuel play
pending_alike story None line fuel play late = refl
pending_alike story (Some pending) line fuel play late =
    let first : Next → State → Here = λ next t. begins_after (length t.text) play.standard_state play.kept next in
    let ends : Place → State → Option Whole = λ place t. Some (standard_ended
    (first (record { program_counter = play.program_counter; fuel = fuel }) t) place t) in
    ap (λ f. after_step (f pending line fuel (resumed play)) (λ next t. any_turn story (first next t) t) ends)
    (late_given_to story late)
    ∙ after_alike (given_to story.loaded forms.Extended (standard_given story.loaded) pending line fuel (resumed play))
    (λ next t. any_turn story (first next t) t)
    (λ next t. standard_turn story.loaded (first next t) t) ends ends
    (λ next t. late_turns story (first next t) t late) (λ place t. refl)

late_answers : (story : Story) (line : List ℕ) (fuel : ℕ) (play : StateOfPlay) → is_late story.version ≡ true
    → any_turn_on story line fuel play ≡ standard_turn_on story.loaded line fuel play
unfolding any_turn_on standard_turn_on
late_answers story line fuel play late = pending_alike story play.pending line fuel play late

pub late_is_standard : (story : Story) → is_late story.version ≡ true → IsStandard story
late_is_standard story late = record {
  steps = λ here s. late_steps story here s late;
  turns = λ here s. late_turns story here s late;
  answers = λ line fuel play. late_answers story line fuel play late;
}

-- Elsewhere

pub steps_elsewhere : (story : Story) (here : Here) (s : State) → story.loaded.own_alphabets ≡ None
    → older_at story.version s.memory here.next.program_counter ≡ None
    → ends_in_fault (step here.next s) ≡ false → closes_none here (step here.next s) ≡ true
    → any_step story here s ≡ within here (step here.next s)
unfolding any_step
steps_elsewhere story here s own none plays quiet =
    ap (λ o. chosen story o here s) none ∙ standard_steps story.loaded here s own plays quiet
