-- Runs over lines that the profile plays without a fault.
use Rattle.std.proofs.Common.{◌≡◌, ℕ, zero, suc, List, [], ◌∷◌, map, refl, ap, subst, ◌∙◌, Bool, true, false, cond}
use Rattle.std.proofs.Common.{Option, Some, None}
use Rattle.std.specs.Prelude.{not}
use Rattle.std.specs.List.{list_all}
use Rattle.std.proofs.lemmas.Bool.{and_parts}
use Rattle.zcore.specs.declared.standard_state.StandardState.{StandardState}
use Rattle.zcore.specs.declared.next.Next.{Next}
use Rattle.zcore.specs.declared.place.Place.{Place}
use Rattle.zcore.specs.declared.place.Place.TheVariants as places
use Rattle.zcore.specs.Execution.{step}
use Rattle.zcore.specs.Parts.{store_result}
use Rattle.zcore.specs.State.{Pending, State, Out, done, halt}
use Rattle.zcore.specs.Turn.{StateOfPlay, Whole, after_step, turn_in, turn_from, weight, turn_pending, turn_on, given}
use Rattle.zcore.specs.Turn.{resumed, ended}
use Rattle.zcore.specs.Turn.{entries, follow, is_waiting, opening, plays_from, first_next, first_state, plays, plays_of}
use Rattle.zcore.proofs.Turning.{turn_ends}
use Rattle.zcore.proofs.Waiting.{step_waits}
use Rattle.zcore.proofs.WaitingTests.{WaitsWell, Waits, waits_bound}
use Rattle.zcore.proofs.WaitingParts.{waits_store_result, waits_goes_on}
use Rattle.zcore_versions.specs.StandardLaws.{WaitsAsTheProfile, is_fault, have_no_fault}
use Rattle.zcore_standard.specs.Machine.{standard_pending, standard_turn_on, standard_opening, with_standard_state}
use Rattle.zcore_standard.specs.Machine.{by_standard}
use Rattle.zcore_standard.specs.Loaded.{Loaded}
use Rattle.zcore_standard.specs.Unicode.{is_ascii}
use Rattle.zcore_versions.proofs.StandardTurning.{standard_turn_keeps, standard_turn_on_keeps}

-- A line where none is waited for

no_some : {P : Type 0} (o : Option Whole) (whole : Whole) → o ≡ Some whole → o ≡ None → P
no_some o whole e f = absurd (cc)

after_is_some : {P : Type 0} (here : Next) (o : Out Next)
    → after_step o turn_from (λ place s. Some (ended here place s)) ≡ None → P
after_is_some here (done next s) e = let t = turn_ends next s in no_some (turn_from next s) t.0 t.1 e
after_is_some here (halt place s) e = absurd (cc)

pending_not : (loaded : Loaded) (line : List ℕ) (fuel : ℕ) (play : StateOfPlay) (p : Option Pending)
    → turn_pending p line fuel play ≡ None → standard_pending loaded p line fuel play ≡ None
pending_not loaded line fuel play None e = refl
pending_not loaded line fuel play (Some pending) e =
    after_is_some (record { program_counter = play.program_counter; fuel = fuel })
    (given pending line fuel (resumed play)) e

turn_on_not : (loaded : Loaded) (line : List ℕ) (fuel : ℕ) (play : StateOfPlay) → turn_on line fuel play ≡ None
    → standard_turn_on loaded line fuel play ≡ None
unfolding turn_on standard_turn_on
turn_on_not loaded line fuel play e = pending_not loaded line fuel play play.pending e

-- The profile does not read what is kept beside

pending_unread : (standard_state : StandardState) (kept_states : List (List ℕ)) (line : List ℕ) (fuel : ℕ)
    (whole : Whole) (p : Option Pending)
    → turn_pending p line fuel (with_standard_state standard_state kept_states whole).state
    ≡ turn_pending p line fuel whole.state
pending_unread standard_state kept_states line fuel whole None = refl
pending_unread standard_state kept_states line fuel whole (Some pending) = refl

standard_state_unread : (standard_state : StandardState) (kept_states : List (List ℕ)) (line : List ℕ) (fuel : ℕ)
    (whole : Whole)
    → turn_on line fuel (with_standard_state standard_state kept_states whole).state ≡ turn_on line fuel whole.state
unfolding turn_on
standard_state_unread standard_state kept_states line fuel whole =
    pending_unread standard_state kept_states line fuel whole whole.state.pending

-- Where the profile waits, its text buffer was tested

some_is : (a b : Whole) → (let o : Option Whole = Some a in o) ≡ Some b → a ≡ b
some_is a b h = cc

waits_as : (here : Next) (t : State) → WaitsWell t → WaitsAsTheProfile (ended here places.Waiting t).state
waits_as here t w = rw w.waits w.text_buffer

-- what ended a turn
ended_waits : (here : Next) (place : Place) (t : State) (whole : Whole) → ended here place t ≡ whole
    → (place ≡ places.Waiting → WaitsWell t) → is_waiting whole.place ≡ true → WaitsAsTheProfile whole.state
ended_waits here places.Waiting t whole e waits is =
    subst (λ w. WaitsAsTheProfile w.state) e (waits_as here t (waits refl))
ended_waits here places.Quit t whole e waits is = absurd (cc)
ended_waits here (places.Limit limit) t whole e waits is = absurd (cc)
ended_waits here (places.Fault cause) t whole e waits is = absurd (cc)

after_waits : (here : Next) (count : ℕ) (s : State) (whole : Whole) (o : Out Next)
    → ((next : Next) (t : State) → turn_in count next t ≡ Some whole → WaitsAsTheProfile whole.state)
    → ((t : State) → o ≡ halt places.Waiting t → WaitsWell t) → is_waiting whole.place ≡ true
    → after_step o (turn_in count) (λ place t. Some (ended here place t)) ≡ Some whole
    → WaitsAsTheProfile whole.state
after_waits here count s whole (done next t) rest waits is e = rest next t e
after_waits here count s whole (halt place t) rest waits is e =
    ended_waits here place t whole (some_is _ whole e) (λ w. waits t (ap (λ p. halt p t) w)) is

turn_in_waits : (count : ℕ) (here : Next) (s : State) (whole : Whole) → turn_in count here s ≡ Some whole
    → is_waiting whole.place ≡ true → WaitsAsTheProfile whole.state
turn_in_waits zero here s whole e is = absurd (cc)
turn_in_waits (suc count) here s whole e is =
    after_waits here count s whole (step here s)
    (λ next t f. turn_in_waits count next t whole f is) (λ t f. step_waits here s t f) is e

turn_waits : (here : Next) (s : State) (whole : Whole) → turn_from here s ≡ Some whole
    → is_waiting whole.place ≡ true → WaitsAsTheProfile whole.state
unfolding turn_from
turn_waits here s whole e is = turn_in_waits (weight here s) here s whole e is

given_waits : (pending : Pending) (line : List ℕ) (fuel : ℕ) → Waits (given pending line fuel)
unfolding given
given_waits pending line fuel s t h =
    waits_bound (store_result pending.result 13 _) _ t (λ u e. waits_store_result pending.result 13 _ u e)
    (λ _ u _ e. waits_goes_on pending.return_address fuel u t e) h

line_waits : (fuel counter : ℕ) (whole : Whole) (o : Out Next)
    → ((t : State) → o ≡ halt places.Waiting t → WaitsWell t) → is_waiting whole.place ≡ true
    → after_step o turn_from
    (λ place s. Some (ended (record { program_counter = counter; fuel = fuel }) place s)) ≡ Some whole
    → WaitsAsTheProfile whole.state
line_waits fuel counter whole (done next t) waits is e = turn_waits next t whole e is
line_waits fuel counter whole (halt place t) waits is e =
    ended_waits (record { program_counter = counter; fuel = fuel }) place t whole (some_is _ whole e)
    (λ w. waits t (ap (λ p. halt p t) w)) is

pending_waits : (line : List ℕ) (fuel : ℕ) (play : StateOfPlay) (p : Option Pending) (whole : Whole)
    → turn_pending p line fuel play ≡ Some whole → is_waiting whole.place ≡ true → WaitsAsTheProfile whole.state
pending_waits line fuel play None whole e is = absurd (cc)
pending_waits line fuel play (Some pending) whole e is =
    line_waits fuel play.program_counter whole (given pending line fuel (resumed play))
    (λ t f. given_waits pending line fuel (resumed play) t f) is e

turn_on_waits : (line : List ℕ) (fuel : ℕ) (play : StateOfPlay) (whole : Whole) → turn_on line fuel play ≡ Some whole
    → is_waiting whole.place ≡ true → WaitsAsTheProfile whole.state
unfolding turn_on
turn_on_waits line fuel play whole e is = pending_waits line fuel play play.pending whole e is

-- Runs

no_fault : (b : Bool) → not b ≡ true → b ≡ false
no_fault true e = cc
no_fault false e = refl

-- the turns of a machine that goes on as the Standard's
abbrev by_lines : Loaded → ℕ → Whole → List (List ℕ) → List Whole
by_lines loaded fuel = follow (λ line play. standard_turn_on loaded line fuel play)

-- a whole state that waits, if it does, as the profile's machine waits
abbrev LeavesWell : Whole → Type 0
LeavesWell whole = is_waiting whole.place ≡ true → WaitsAsTheProfile whole.state

-- the turn of a line, and those that follow it
turn_keeps : (loaded : Loaded) (standard_state : StandardState) (kept_states : List (List ℕ)) (fuel : ℕ)
    (line : List ℕ) (lines : List (List ℕ)) (whole : Whole)
    (o : Option Whole) → loaded.own_alphabets ≡ None → list_all is_ascii line ≡ true → standard_state.window ≡ 0
    → turn_on line fuel whole.state ≡ o → WaitsAsTheProfile whole.state
    → ((next : Whole) → LeavesWell next → have_no_fault (plays_from fuel next lines) ≡ true
    → by_lines loaded fuel (with_standard_state standard_state kept_states next) lines
    ≡ map (with_standard_state standard_state kept_states) (plays_from fuel next lines))
    → have_no_fault (entries o (λ next. plays_from fuel next lines)) ≡ true
    → entries (standard_turn_on loaded line fuel (with_standard_state standard_state kept_states whole).state)
    (λ next. by_lines loaded fuel next lines)
    ≡ map (with_standard_state standard_state kept_states) (entries o (λ next. plays_from fuel next lines))
turn_keeps loaded standard_state kept_states fuel line lines whole None own plain lower e waits rest plays =
    ap (λ p. entries p (λ next. by_lines loaded fuel next lines))
    (turn_on_not loaded line fuel (with_standard_state standard_state kept_states whole).state
    (standard_state_unread standard_state kept_states line fuel whole ∙ e))
turn_keeps loaded standard_state kept_states fuel line lines whole (Some next) own plain lower e waits rest plays =
    let parts = and_parts (not (is_fault next.place)) (have_no_fault (plays_from fuel next lines)) plays in
    ap (λ p. entries p (λ other. by_lines loaded fuel other lines))
    (standard_turn_on_keeps loaded line fuel (with_standard_state standard_state kept_states whole).state next own plain lower waits
    (standard_state_unread standard_state kept_states line fuel whole ∙ e) (no_fault (is_fault next.place) parts.0))
    ∙ ap (λ ws. with_standard_state standard_state kept_states next ∷ ws)
    (rest next (turn_on_waits line fuel whole.state next e) parts.1)

waiting_keeps : (waits : Bool) (standard_state : StandardState) (kept_states : List (List ℕ)) (given kept : List Whole)
    → (waits ≡ true → have_no_fault kept ≡ true → given ≡ map (with_standard_state standard_state kept_states) kept)
    → have_no_fault (cond waits kept []) ≡ true
    → cond waits given [] ≡ map (with_standard_state standard_state kept_states) (cond waits kept [])
waiting_keeps true standard_state kept_states given kept same plays = same refl plays
waiting_keeps false standard_state kept_states given kept same plays = refl

follow_keeps : (loaded : Loaded) (standard_state : StandardState) (kept_states : List (List ℕ)) (fuel : ℕ)
    (lines : List (List ℕ)) (whole : Whole)
    → loaded.own_alphabets ≡ None → standard_state.window ≡ 0 → list_all (list_all is_ascii) lines ≡ true
    → LeavesWell whole → have_no_fault (plays_from fuel whole lines) ≡ true
    → by_lines loaded fuel (with_standard_state standard_state kept_states whole) lines
    ≡ map (with_standard_state standard_state kept_states) (plays_from fuel whole lines)
follow_keeps loaded standard_state kept_states fuel [] whole own lower plain leaves plays = refl
follow_keeps loaded standard_state kept_states fuel (line ∷ lines) whole own lower plain leaves plays =
    let each = and_parts _ _ plain in
    waiting_keeps (is_waiting whole.place) standard_state kept_states
    (entries (standard_turn_on loaded line fuel (with_standard_state standard_state kept_states whole).state)
    (λ next. by_lines loaded fuel next lines))
    (entries (turn_on line fuel whole.state) (λ next. plays_from fuel next lines))
    (λ waits. turn_keeps loaded standard_state kept_states fuel line lines whole
    (turn_on line fuel whole.state) own each.0 lower refl (leaves waits)
    (λ next. follow_keeps loaded standard_state kept_states fuel lines next own lower each.1)) plays

-- the opening, and the turns that follow it
opening_keeps : (loaded : Loaded) (story : List ℕ) (fuel : ℕ) (lines : List (List ℕ)) (o : Option Whole)
    → loaded.own_alphabets ≡ None → loaded.dice.window ≡ 0 → list_all (list_all is_ascii) lines ≡ true
    → opening story fuel ≡ o
    → have_no_fault (entries o (λ whole. plays_from fuel whole lines)) ≡ true
    → plays_of (by_standard loaded story fuel) lines
    ≡ map (with_standard_state loaded.dice []) (entries o (λ whole. plays_from fuel whole lines))
unfolding opening standard_opening
opening_keeps loaded story fuel lines None own lower plain e plays =
    let t = turn_ends (first_next story fuel) (first_state story) in
    no_some (turn_from (first_next story fuel) (first_state story)) t.0 t.1 e
opening_keeps loaded story fuel lines (Some whole) own lower plain e plays =
    let parts = and_parts (not (is_fault whole.place)) (have_no_fault (plays_from fuel whole lines)) plays in
    ap (λ p. entries p (λ other. by_lines loaded fuel other lines))
    (standard_turn_keeps loaded loaded.dice [] (first_next story fuel) (first_state story) whole own lower e
    (no_fault (is_fault whole.place) parts.0))
    ∙ ap (λ ws. with_standard_state loaded.dice [] whole ∷ ws)
    (follow_keeps loaded loaded.dice [] fuel lines whole own lower plain
    (turn_waits (first_next story fuel) (first_state story) whole e) parts.1)

pub standard_runs_keep : (loaded : Loaded) (story : List ℕ) (fuel : ℕ) (lines : List (List ℕ))
    → loaded.own_alphabets ≡ None → loaded.dice.window ≡ 0 → list_all (list_all is_ascii) lines ≡ true
    → have_no_fault (plays story fuel lines) ≡ true
    → plays_of (by_standard loaded story fuel) lines ≡ map (with_standard_state loaded.dice []) (plays story fuel lines)
standard_runs_keep loaded story fuel lines own lower plain plays =
    opening_keeps loaded story fuel lines (opening story fuel) own lower plain refl plays
