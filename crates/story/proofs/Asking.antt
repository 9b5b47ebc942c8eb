-- A run of the profile never asks for the name of a saved game: where it waits, it has a text buffer, after the header.
use Rattle.std.proofs.Common.{◌≡◌, ℕ, zero, suc, List, [], ◌∷◌, map, refl, ap, subst, ◌∙◌, arith, Bool, true, false}
use Rattle.std.proofs.Common.{cond, Option, Some, None}
use Rattle.std.specs.Prelude.{◌==◌, ◌&&◌, ◌||◌, nat_le, not, if◌then◌else◌}
use Rattle.std.specs.List.{list_all}
use Rattle.std.specs.Option.{is_none}
use Rattle.std.proofs.lemmas.Bool.{and_parts, leb-true, ne_eqb}
use Rattle.zcore.specs.declared.standard_state.StandardState.{StandardState}
use Rattle.zcore.specs.declared.next.Next.{Next}
use Rattle.zcore.specs.declared.place.Place.{Place}
use Rattle.zcore.specs.declared.place.Place.TheVariants as places
use Rattle.zcore.specs.Execution.{step}
use Rattle.zcore.specs.Parts.{is_text_buffer, store_result}
use Rattle.zcore.specs.State.{Pending, State, Out, done, halt}
use Rattle.zcore.specs.Turn.{StateOfPlay, Whole, after_step, turn_in, turn_from, weight, turn_pending, turn_on, given}
use Rattle.zcore.specs.Turn.{resumed, ended, entries, is_waiting, opening, plays_from, first_next, first_state, plays}
use Rattle.zcore.proofs.Waiting.{step_waits}
use Rattle.zcore.proofs.WaitingTests.{WaitsWell, Waits, waits_bound}
use Rattle.zcore.proofs.WaitingParts.{waits_store_result, waits_goes_on}
use Rattle.zcore_standard.specs.Machine.{with_standard_state}
use Rattle.zcore_standard.specs.declared.save_form.Purpose.{Purpose}
use Rattle.zcore_standard.specs.Saving.{asked_by, purpose_of}
use Rattle.story.specs.Played.{asks_no_name}

-- a text buffer is not where none is

no_name : (pending : Pending) (memory : List ℕ) → is_text_buffer memory pending.text_buffer ≡ true
    → asked_by (Some pending) ≡ None
no_name pending memory e =
    let a = and_parts _ _ e in
    let least = leb-true 64 pending.text_buffer (and_parts _ _ (and_parts _ _ a.0).0).0 in
    let some : (pending.text_buffer == 0) ≡ false =
    ne_eqb pending.text_buffer 0 (λ z. omega (arith, z, least)) in
    ap (λ b. if b && nat_le 1 pending.parse_buffer then Some (purpose_of pending) else None) some

asks_none : (t : State) → WaitsWell t → asked_by t.pending ≡ None
asks_none t w = ap asked_by w.waits ∙ no_name w.pending t.memory w.text_buffer

-- Turns

some_is : (a b : Whole) → (let o : Option Whole = Some a in o) ≡ Some b → a ≡ b
some_is a b h = cc

abbrev AsksNone : Whole → Type 0
AsksNone whole = is_waiting whole.place ≡ true → asked_by whole.state.pending ≡ None

asks_at : (here : Next) (place : Place) (t : State) → (place ≡ places.Waiting → WaitsWell t)
    → AsksNone (ended here place t)
asks_at here places.Waiting t waits is = asks_none t (waits refl)
asks_at here places.Quit t waits is = absurd (cc)
asks_at here (places.Limit limit) t waits is = absurd (cc)
asks_at here (places.Fault cause) t waits is = absurd (cc)

ended_asks : (here : Next) (place : Place) (t : State) (whole : Whole) → ended here place t ≡ whole
    → (place ≡ places.Waiting → WaitsWell t) → AsksNone whole
ended_asks here place t whole e waits = subst AsksNone e (asks_at here place t waits)

after_asks : (here : Next) (count : ℕ) (whole : Whole) (o : Out Next)
    → ((next : Next) (t : State) → turn_in count next t ≡ Some whole → AsksNone whole)
    → ((t : State) → o ≡ halt places.Waiting t → WaitsWell t)
    → after_step o (turn_in count) (λ place t. Some (ended here place t)) ≡ Some whole → AsksNone whole
after_asks here count whole (done next t) rest waits e = rest next t e
after_asks here count whole (halt place t) rest waits e =
    ended_asks here place t whole (some_is _ whole e) (λ w. waits t (ap (λ p. halt p t) w))

turn_in_asks : (count : ℕ) (here : Next) (s : State) (whole : Whole) → turn_in count here s ≡ Some whole → AsksNone whole
turn_in_asks zero here s whole e = absurd (cc)
turn_in_asks (suc count) here s whole e =
    after_asks here count whole (step here s) (λ next t f. turn_in_asks count next t whole f)
    (λ t f. step_waits here s t f) e

turn_asks : (here : Next) (s : State) (whole : Whole) → turn_from here s ≡ Some whole → AsksNone whole
unfolding turn_from
turn_asks here s whole e = turn_in_asks (weight here s) here s whole e

given_waits : (pending : Pending) (line : List ℕ) (fuel : ℕ) → Waits (given pending line fuel)
unfolding given
given_waits pending line fuel s t h =
    waits_bound (store_result pending.result 13 _) _ t (λ u e. waits_store_result pending.result 13 _ u e)
    (λ _ u _ e. waits_goes_on pending.return_address fuel u t e) h

line_asks : (fuel counter : ℕ) (whole : Whole) (o : Out Next) → ((t : State) → o ≡ halt places.Waiting t → WaitsWell t)
    → after_step o turn_from
    (λ place s. Some (ended (record { program_counter = counter; fuel = fuel }) place s)) ≡ Some whole
    → AsksNone whole
line_asks fuel counter whole (done next t) waits e = turn_asks next t whole e
line_asks fuel counter whole (halt place t) waits e =
    ended_asks (record { program_counter = counter; fuel = fuel }) place t whole (some_is _ whole e)
    (λ w. waits t (ap (λ p. halt p t) w))

pending_asks : (line : List ℕ) (fuel : ℕ) (play : StateOfPlay) (p : Option Pending) (whole : Whole)
    → turn_pending p line fuel play ≡ Some whole → AsksNone whole
pending_asks line fuel play None whole e = absurd (cc)
pending_asks line fuel play (Some pending) whole e =
    line_asks fuel play.program_counter whole (given pending line fuel (resumed play))
    (λ t f. given_waits pending line fuel (resumed play) t f) e

turn_on_asks : (line : List ℕ) (fuel : ℕ) (play : StateOfPlay) (whole : Whole) → turn_on line fuel play ≡ Some whole
    → AsksNone whole
unfolding turn_on
turn_on_asks line fuel play whole e = pending_asks line fuel play play.pending whole e

-- Runs

one_asks : (waits : Bool) (o : Option Purpose) → (waits ≡ true → o ≡ None) → (not waits || is_none o) ≡ true
one_asks false o h = refl
one_asks true o h = ap is_none (h refl)

both : (a b : Bool) → a ≡ true → b ≡ true → (a && b) ≡ true
both a b e f = rw (e, f) refl

if_waiting : (waits : Bool) (ws : List Whole) → list_all asks_no_name ws ≡ true
    → list_all asks_no_name (cond waits ws []) ≡ true
if_waiting true ws h = h
if_waiting false ws h = refl

entries_ask : (o : Option Whole) (rest : Whole → List Whole)
    → ((w : Whole) → o ≡ Some w → list_all asks_no_name (rest w) ≡ true)
    → ((w : Whole) → o ≡ Some w → AsksNone w) → list_all asks_no_name (entries o rest) ≡ true
entries_ask None rest more first = refl
entries_ask (Some w) rest more first =
    both (asks_no_name w) _ (one_asks (is_waiting w.place) (asked_by w.state.pending) (first w refl)) (more w refl)

follow_ask : (fuel : ℕ) (lines : List (List ℕ)) (w : Whole) → list_all asks_no_name (plays_from fuel w lines) ≡ true
follow_ask fuel [] w = refl
follow_ask fuel (line ∷ lines) w =
    if_waiting (is_waiting w.place) _ (entries_ask (turn_on line fuel w.state) (λ next. plays_from fuel next lines)
    (λ next e. follow_ask fuel lines next) (λ next e. turn_on_asks line fuel w.state next e))

pub runs_ask : (memory : List ℕ) (fuel : ℕ) (lines : List (List ℕ)) → list_all asks_no_name (plays memory fuel lines) ≡ true
unfolding opening
runs_ask memory fuel lines =
    entries_ask (opening memory fuel) (λ w. plays_from fuel w lines) (λ w e. follow_ask fuel lines w)
    (λ w e. turn_asks (first_next memory fuel) (first_state memory) w e)

pub same_asking : (beside : StandardState) (ws : List Whole)
    → list_all asks_no_name (map (with_standard_state beside []) ws) ≡ list_all asks_no_name ws
same_asking beside [] = refl
same_asking beside (w ∷ ws) = ap (λ b. asks_no_name w && b) (same_asking beside ws)
