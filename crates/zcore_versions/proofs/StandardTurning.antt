-- Turns of the Standard's machine: each has one end, and reaches it within its weight. A turn of the profile that meets
-- no fault is one of them.
use Rattle.std.proofs.Common.{◌≡◌, ℕ, zero, suc, ◌⊎◌, inl, inr, List, length, refl, ap, ◌∙◌, arith}
use Rattle.std.proofs.Common.{Bool, true, false, cond, Option, Some, None, slice_index}
use Rattle.std.specs.Prelude.{◌==◌, if◌then◌else◌, IfSome}
use Rattle.std.specs.List.{list_all}
use Rattle.zcore.specs.declared.standard_state.StandardState.{StandardState}
use Rattle.zcore.specs.declared.next.Next.{Next}
use Rattle.zcore.specs.declared.place.Fault.TheVariants as faults
use Rattle.zcore.specs.declared.place.Place.{Place}
use Rattle.zcore.specs.declared.place.Place.TheVariants as places
use Rattle.zcore.specs.State.{Pending, State, Out, done, halt}
use Rattle.zcore.specs.Execution.{step}
use Rattle.zcore.specs.Parts.{is_text_buffer}
use Rattle.zcore.specs.Turn.{StateOfPlay, Whole, TurnsBy, after_step, turn_by, turn_in, turn_from, weight}
use Rattle.zcore.specs.Turn.{ended, is_waiting, given, resumed, turn_pending, turn_on}
use Rattle.zcore.proofs.Turning.{IsWeight, weight_some, turn_by_ends, turns_by_same}
use Rattle.zcore_standard.specs.declared.operations.StandardOperation.{StandardOperation}
use Rattle.zcore_standard.specs.declared.operations.StandardOperation.TheVariants.{Read}
use Rattle.zcore_standard.specs.Place.{Here, plain, within}
use Rattle.zcore_standard.specs.Loaded.{Loaded}
use Rattle.zcore_standard.specs.Reading.{standard_given}
use Rattle.zcore_standard.specs.declared.save_form.SaveForm.TheVariants as forms
use Rattle.zcore_standard.specs.Operations.{further_at}
use Rattle.zcore_standard.specs.Unicode.{is_ascii}
use Rattle.zcore_standard.specs.Windows.{begun_at}
use Rattle.zcore_standard.specs.Machine.{chosen, standard, standard_step, standard_turn, standard_pending}
use Rattle.zcore_standard.specs.Machine.{standard_turn_on, standard_ended, with_standard_state, begins, begins_after}
use Rattle.zcore_versions.specs.StandardLaws.{EndsOneWay, WaitsAsTheProfile, is_fault, ends_in_fault, closes_none}
use Rattle.zcore_versions.proofs.GivenAlike.{given_alike, line_given_to}
use Rattle.zcore_versions.proofs.Known.{known_keeps}
use Rattle.zcore_versions.proofs.Reading.{read_keeps}
use Rattle.zcore_versions.proofs.Refusing.{IsReadByte, Stands, stands, step_refused}
use Rattle.zcore_versions.proofs.StandardStepping.{standard_step_lighter}

abbrev pub weighs : Here → State → ℕ
weighs here s = weight here.next s

pub standard_weight : (loaded : Loaded) → IsWeight (standard loaded) weighs
standard_weight loaded = record {
  some = λ here s. weight_some here.next s;
  falls = λ here next s t e. (standard_step_lighter loaded here next s t e).falls;
}

pub standard_ends : (loaded : Loaded) (here : Here) (s : State)
    → (whole : Whole) × (standard_turn loaded here s ≡ Some whole)
unfolding standard_turn
standard_ends loaded here s =
    turn_by_ends (standard loaded) weighs (standard_weight loaded) (weighs here s) here s (omega arith)

pub is_standard_turn : (loaded : Loaded) (here : Here) (s : State) (whole : Whole)
    → standard_turn loaded here s ≡ Some whole → TurnsBy (standard loaded) here s whole
unfolding standard_turn
is_standard_turn loaded here s whole e = record { count = weighs here s; ends = e }

-- the turn is what the function gives
pub standard_turn_is : (loaded : Loaded) (here : Here) (s : State) (whole : Whole)
    → TurnsBy (standard loaded) here s whole → standard_turn loaded here s ≡ Some whole
standard_turn_is loaded here s whole turn =
    let e = standard_ends loaded here s in
    let same = turns_by_same (standard loaded) here s e.0 whole (is_standard_turn loaded here s e.0 e.1) turn in
    e.1 ∙ ap (λ w. Some w) same

pub standard_ends_once : (loaded : Loaded) (here : Here) (s : State) → EndsOneWay loaded here s
standard_ends_once loaded here s =
    let e = standard_ends loaded here s in
    let turn = is_standard_turn loaded here s e.0 e.1 in
    record {
      whole = e.0;
      ends = turn;
      found = e.1;
      only = λ other u. turns_by_same (standard loaded) here s other e.0 u turn;
    }

-- Steps that the profile plays

neither : (b : Bool) → b ≡ false → b ≡ true → ⊥
neither true e f = cc
neither false e f = cc

-- at a further operation the profile faults, or both read `aread`
further_keeps : (loaded : Loaded) (here : Here) (s : State) (operation : StandardOperation)
    → Stands s.memory here.next.program_counter operation → ends_in_fault (step here.next s) ≡ false
    → closes_none here (step here.next s) ≡ true
    → (step here.next s ≡ halt (places.Fault faults.Opcode) s)
    ⊎ ((operation ≡ Read) × IsReadByte (slice_index s.memory here.next.program_counter))
    → chosen loaded (Some operation) here s ≡ within here (step here.next s)
further_keeps loaded here s operation a plays quiet (inl e) = absurd (neither _ plays (ap ends_in_fault e))
further_keeps loaded here s operation a plays quiet (inr r) =
    ap (λ o. chosen loaded (Some o) here s) r.0 ∙ read_keeps loaded here s a.code a.within r.1 plays quiet

chosen_keeps : (loaded : Loaded) (here : Here) (s : State) (o : Option StandardOperation) → loaded.own_alphabets ≡ None
    → further_at s.memory here.next.program_counter ≡ o → ends_in_fault (step here.next s) ≡ false
    → closes_none here (step here.next s) ≡ true → chosen loaded o here s ≡ within here (step here.next s)
chosen_keeps loaded here s None own e plays quiet = ap (within here) (known_keeps loaded here.next s own plays)
chosen_keeps loaded here s (Some operation) own e plays quiet =
    further_keeps loaded here s operation (stands s.memory here.next.program_counter operation e) plays quiet
    (step_refused here.next s operation e)

pub standard_steps : (loaded : Loaded) (here : Here) (s : State) → loaded.own_alphabets ≡ None
    → ends_in_fault (step here.next s) ≡ false → closes_none here (step here.next s) ≡ true
    → standard_step loaded here s ≡ within here (step here.next s)
unfolding standard_step
standard_steps loaded here s own plays quiet =
    chosen_keeps loaded here s (further_at s.memory here.next.program_counter) own refl plays quiet

-- Turns that the profile plays

some_is : (a b : Whole) → (let o : Option Whole = Some a in o) ≡ Some b → a ≡ b
some_is a b h = cc

-- where the lower window is selected, a turn begins with no upper one
begins_plain : (from : ℕ) (standard_state : StandardState) (kept_states : List (List ℕ)) (next : Next)
    → standard_state.window ≡ 0
    → begins_after from standard_state kept_states next ≡ plain standard_state kept_states next
begins_plain from standard_state kept_states next e =
    ap (λ (w : ℕ). let h : Here = record (plain standard_state kept_states next) {
      upper = if w == 0 then None else Some (begun_at from);
    } in h) e

both_same : {A : Type 0} (b : Bool) (a : A) → cond b a a ≡ a
both_same true a = refl
both_same false a = refl

-- and ends as in the profile
ended_plain : (standard_state : StandardState) (kept_states : List (List ℕ)) (here : Next) (place : Place) (s : State)
    → standard_ended (plain standard_state kept_states here) place s
    ≡ with_standard_state standard_state kept_states (ended here place s)
ended_plain standard_state kept_states here place s =
    ap (λ text. with_standard_state standard_state kept_states (ended here place (record s { text = text })))
    (both_same (is_waiting place) s.text)

-- a step of the profile, and what follows it
after_keeps : (loaded : Loaded) (standard_state : StandardState) (kept_states : List (List ℕ)) (here : Next)
    (s : State) (count : ℕ) (whole : Whole) (o : Out Next)
    → ((next : Next) (t : State) → turn_in count next t ≡ Some whole
    → turn_by (standard loaded) count (plain standard_state kept_states next) t
    ≡ Some (with_standard_state standard_state kept_states whole))
    → is_fault whole.place ≡ false
    → (ends_in_fault o ≡ false
    → standard_step loaded (plain standard_state kept_states here) s ≡ within (plain standard_state kept_states here) o)
    → after_step o (turn_in count) (λ place t. Some (ended here place t)) ≡ Some whole
    → turn_by (standard loaded) (suc count) (plain standard_state kept_states here) s
    ≡ Some (with_standard_state standard_state kept_states whole)
after_keeps loaded standard_state kept_states here s count whole (done next t) rest plays same e =
    ap (λ o. after_step o (turn_by (standard loaded) count)
    (λ place u. Some ((standard loaded).ended (plain standard_state kept_states here) place u))) (same refl)
    ∙ rest next t e
after_keeps loaded standard_state kept_states here s count whole (halt place t) rest plays same e =
    let w : ended here place t ≡ whole = some_is _ whole e in
    ap (λ o. after_step o (turn_by (standard loaded) count)
    (λ place u. Some ((standard loaded).ended (plain standard_state kept_states here) place u)))
    (same (ap (λ (x : Whole). is_fault x.place) w ∙ plays))
    ∙ ap (λ x. Some x) (ended_plain standard_state kept_states here place t)
    ∙ ap (λ x. Some (with_standard_state standard_state kept_states x)) w

turn_in_keeps : (loaded : Loaded) (standard_state : StandardState) (kept_states : List (List ℕ)) (count : ℕ)
    (here : Next) (s : State) (whole : Whole)
    → loaded.own_alphabets ≡ None → turn_in count here s ≡ Some whole → is_fault whole.place ≡ false
    → turn_by (standard loaded) count (plain standard_state kept_states here) s
    ≡ Some (with_standard_state standard_state kept_states whole)
turn_in_keeps loaded standard_state kept_states zero here s whole own e plays = absurd (cc)
turn_in_keeps loaded standard_state kept_states (suc count) here s whole own e plays =
    after_keeps loaded standard_state kept_states here s count whole (step here s)
    (λ next t h. turn_in_keeps loaded standard_state kept_states count next t whole own h plays) plays
    (λ h. standard_steps loaded (plain standard_state kept_states here) s own h refl) e

turn_keeps_after : (from : ℕ) (loaded : Loaded) (standard_state : StandardState) (kept_states : List (List ℕ))
    (here : Next) (s : State) (whole : Whole)
    → loaded.own_alphabets ≡ None → standard_state.window ≡ 0
    → turn_from here s ≡ Some whole → is_fault whole.place ≡ false
    → standard_turn loaded (begins_after from standard_state kept_states here) s
    ≡ Some (with_standard_state standard_state kept_states whole)
unfolding turn_from standard_turn
turn_keeps_after from loaded standard_state kept_states here s whole own lower e plays =
    ap (λ first. turn_by (standard loaded) (weight here s) first s) (begins_plain from standard_state kept_states here lower)
    ∙ turn_in_keeps loaded standard_state kept_states (weight here s) here s whole own e plays

pub standard_turn_keeps : (loaded : Loaded) (standard_state : StandardState) (kept_states : List (List ℕ))
    (here : Next) (s : State) (whole : Whole)
    → loaded.own_alphabets ≡ None → standard_state.window ≡ 0
    → turn_from here s ≡ Some whole → is_fault whole.place ≡ false
    → standard_turn loaded (begins standard_state kept_states here) s
    ≡ Some (with_standard_state standard_state kept_states whole)
standard_turn_keeps = turn_keeps_after 0

-- The turn of a line

line_keeps : (loaded : Loaded) (fuel : ℕ) (play : StateOfPlay) (whole : Whole) (o : Out Next)
    → loaded.own_alphabets ≡ None → play.standard_state.window ≡ 0 → is_fault whole.place ≡ false
    → after_step o turn_from
    (λ place s. Some (ended (record { program_counter = play.program_counter; fuel = fuel }) place s)) ≡ Some whole
    → after_step o (λ next s. standard_turn loaded (begins_after (length s.text) play.standard_state play.kept next) s)
    (λ place s. Some (standard_ended (begins_after (length s.text) play.standard_state play.kept
    (record { program_counter = play.program_counter; fuel = fuel })) place s))
    ≡ Some (with_standard_state play.standard_state play.kept whole)
line_keeps loaded fuel play whole (done next t) own lower plays e =
    turn_keeps_after (length t.text) loaded play.standard_state play.kept next t whole own lower e plays
line_keeps loaded fuel play whole (halt place t) own lower plays e =
    let here : Next = record { program_counter = play.program_counter; fuel = fuel } in
    ap (λ first. Some (standard_ended first place t)) (begins_plain (length t.text) play.standard_state play.kept here lower)
    ∙ ap (λ x. Some x) (ended_plain play.standard_state play.kept here place t)
    ∙ ap (λ x. Some (with_standard_state play.standard_state play.kept x)) (some_is _ whole e)

pending_keeps : (loaded : Loaded) (line : List ℕ) (fuel : ℕ) (play : StateOfPlay) (whole : Whole) (p : Option Pending)
    → loaded.own_alphabets ≡ None → list_all is_ascii line ≡ true → play.standard_state.window ≡ 0
    → IfSome p (λ pending. is_text_buffer play.memory pending.text_buffer ≡ true)
    → turn_pending p line fuel play ≡ Some whole → is_fault whole.place ≡ false
    → standard_pending loaded p line fuel play ≡ Some (with_standard_state play.standard_state play.kept whole)
pending_keeps loaded line fuel play whole None own plain lower waits e plays = absurd (cc)
pending_keeps loaded line fuel play whole (Some pending) own plain lower waits e plays =
    ap (λ o. after_step o (λ next s. standard_turn loaded (begins_after (length s.text) play.standard_state play.kept next) s)
    (λ place s. Some (standard_ended (begins_after (length s.text) play.standard_state play.kept
    (record { program_counter = play.program_counter; fuel = fuel })) place s)))
    (line_given_to loaded forms.Extended (standard_given loaded) pending line fuel (resumed play) waits
    ∙ given_alike loaded pending line fuel (resumed play) own plain waits)
    ∙ line_keeps loaded fuel play whole (given pending line fuel (resumed play)) own lower plays e

pub standard_turn_on_keeps : (loaded : Loaded) (line : List ℕ) (fuel : ℕ) (play : StateOfPlay) (whole : Whole)
    → loaded.own_alphabets ≡ None → list_all is_ascii line ≡ true → play.standard_state.window ≡ 0 → WaitsAsTheProfile play
    → turn_on line fuel play ≡ Some whole
    → is_fault whole.place ≡ false
    → standard_turn_on loaded line fuel play ≡ Some (with_standard_state play.standard_state play.kept whole)
unfolding turn_on standard_turn_on
standard_turn_on_keeps loaded line fuel play whole own plain lower waits e plays =
    pending_keeps loaded line fuel play whole play.pending own plain lower waits e plays
