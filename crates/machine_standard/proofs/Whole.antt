-- A whole turn of the Standard's machine.
use Rattle.std.proofs.Common.{◌≡◌, ◌≢◌, ℕ, zero, suc, ◌≤◌, List, [], ◌++◌, length, take, drop, refl, ap, sym, ◌∙◌}
use Rattle.std.proofs.Common.{subst, arith, slice_index, Result, Ok, Err, Bool, true, false, cond, Option, None, Some, is_some, inl, inr}
use Rattle.std.specs.Prelude.{◌-◌, ◌==◌, ◌||◌, if◌then◌else◌, IfOk, IfSome, OnErr, OnOk}
use Rattle.std.proofs.lemmas.List.{drop-append-le, drop_all, length-drop, length-take-le, take-append-le, take_all}
use Rattle.journal.specs.Recording.{Recording}
use Rattle.zcore.specs.declared.standard_state.StandardState.{StandardState}
use Rattle.zcore.specs.declared.next.Next.{Next}
use Rattle.zcore.specs.declared.place.Place.{Place}
use Rattle.zcore.specs.declared.place.Place.TheVariants as places
use Rattle.zcore.specs.State.{State, Out, done, halt}
use Rattle.zcore.specs.Turn.{Machine, ReachesBy, TurnsBy, Whole, ended, first_next, first_state, notice}
use Rattle.journal.specs.declared.recorded.NoMemory.{NoMemory}
use Rattle.machine.specs.Ended.{TurnEndsBy}
use Rattle.zcore_versions.specs.StandardLaws.{ends_in_fault, is_plain, closes_none}
use Rattle.zcore_standard.specs.Place.{Here, plain, within}
use Rattle.zcore_standard.specs.Machine.{keeping, standard_ended, shown, with_standard_state, begins, begins_after}
use Rattle.zcore_standard.specs.Windows.{begun_at, lower}
use Rattle.zcore_standard.specs.Streams.{heard_of}
use Rattle.zcore_versions.specs.Laws.{WaitsForLine}
use Rattle.zcore.specs.Execution.{step}
use Rattle.zcore_versions.specs.Machine.{any, any_step}
use Rattle.zcore_versions.specs.Reading.{can_be_given}
use Rattle.zcore_versions.specs.Versions.{Story}
use Rattle.zcore_versions.proofs.Turning.{steps_elsewhere}
use Rattle.zcore_versions.proofs.Waiting.{any_step_waits}
use Rattle.machine_frames.specs.Contents.{Contents, memory_of}
use Rattle.machine_frames.specs.Playing.{StopsBy, IsOpening, whole_of}
use Rattle.machine_frames.specs.States.{state_of, IsSound, program_counter_of, standard_state_of}
use Rattle.machine_frames.specs.Went.{GivenUp, GoesOn}
use Rattle.machine_frames.proofs.Steps.{store_after, goes_on_still}
use Rattle.machine_lines.proofs.Lines.{base_kept}
use Rattle.zcore_standard_loading.specs.Loading.{is_played}
use Rattle.machine_arms.specs.Passed.{Passed, flown}
use Rattle.machine.proofs.Turning.{stops_whole}
use Rattle.machine_standard_windows.specs.TurnState.{place, Keeps}
use Rattle.machine_standard_windows.specs.declared.turn_state.TurnState.{TurnState}
use Rattle.machine_versions_words.specs.Taking.{CanBeGivenBy}
use Rattle.machine_standard.specs.Loads.{IsStoreFor}
use Rattle.zcore_versions.specs.Operations.{older_at}
use Rattle.zcore_versions.specs.Versions.{is_late}
use Rattle.machine_standard.proofs.Elsewhere.{flown_early, flown_late_elsewhere}
use Rattle.machine_standard.proofs.Pictures.{leads_flown, leads_still}
use Rattle.machine_standard.proofs.Scripting.{script_flown, script_still}
use Rattle.machine_standard.proofs.StyledSteps.{styles_flown, styles_still}
use Rattle.machine_standard.specs.Playing.{Ahead, OpensStandard}
use Rattle.machine_standard.specs.declared.turn.StandardMachine.{StandardMachine}

-- Stores of a story

pub store_goes_on : {machine : StandardMachine} {old new : Recording Contents} → IsStoreFor machine old.store
    → GoesOn old new → IsStoreFor machine new.store
store_goes_on {machine} {old} {new} o g = record {
  store = store_after o.store g;
  dynamic = o.dynamic ∙ sym (base_kept old new g);
  saves = subst (λ (n : ℕ). IfSome machine.loaded.saves (λ story. length story ≡ n)) (sym (base_kept old new g)) o.saves;
  version = o.version;
}

pub store_remains : {A E : Type 0} (result : Result A E) (machine : StandardMachine) (old new : Recording Contents)
    → IsStoreFor machine old.store → OnOk result (GoesOn old new) → OnOk result (IsStoreFor machine new.store)
store_remains (Ok x) machine old new o g = store_goes_on o g
store_remains (Err e) machine old new o g = tt

-- Steps

or_true : (b : Bool) → (b || true) ≡ true
or_true true = refl
or_true false = refl

-- a step that units do is a step of this machine
by_profile : (story : Story) (turn : TurnState) (here next : Next) (s t : State) → story.loaded.own_alphabets ≡ None
    → (step here s ≡ done next t) × (older_at story.version s.memory here.program_counter ≡ None)
    → any_step story (place turn here) s ≡ done (place turn next) t
by_profile story turn here next s t own x =
    steps_elsewhere story (place turn here) s own x.1 (ap ends_in_fault x.0)
    (ap (closes_none (place turn here)) x.0 ∙ or_true (is_plain (place turn here)))
    ∙ ap (within (place turn here)) x.0

flown_by : (late : Bool) (story : Story) (turn : TurnState) (here next : Next) (s t : State)
    → is_late story.version ≡ late → story.loaded.own_alphabets ≡ None → is_played story.version.number ≡ true
    → flown story.version here s ≡ done next t → any_step story (place turn here) s ≡ done (place turn next) t
flown_by true story turn here next s t late own played e =
    by_profile story turn here next s t own (flown_late_elsewhere story.version here next s t late e)
flown_by false story turn here next s t early own played e =
    elim (flown_early story (place turn here) next s t played early e) [
      | inl x ↦ by_profile story turn here next s t own x
      | inr called ↦ called.0
    ]

flown_goes_on : (story : Story) (turn : TurnState) (here next : Next) (s t : State) → story.loaded.own_alphabets ≡ None
    → is_played story.version.number ≡ true → flown story.version here s ≡ done next t
    → any_step story (place turn here) s ≡ done (place turn next) t
flown_goes_on story turn here next s t own played e =
    flown_by (is_late story.version) story turn here next s t refl own played e

pub reaches_any : (story : Story) (turn : TurnState) (count : ℕ) (first here : Next) (s t : State)
    → story.loaded.own_alphabets ≡ None → is_played story.version.number ≡ true
    → ReachesBy (flown story.version) count first s here t
    → ReachesBy (any_step story) count (place turn first) s (place turn here) t
reaches_any story turn zero first here s t own played h = (ap (place turn) h.0, h.1)
reaches_any story turn (suc count) first here s t own played h = (
  place turn h.0,
  h.1,
  reaches_any story turn count first h.0 s h.1 own played h.2,
  flown_goes_on story turn h.0 here h.1 t own played h.3,
)

none_there : {A : Type 0} (o : Option A) → is_some o ≡ false → o ≡ None
none_there None e = refl
none_there (Some x) e = absurd (cc)

-- steps by units, where the story has no alphabets of its own
pub quickly_ahead : {E : Type 0} (s t : Recording Contents) (r : Result Next E) (story : Story) (first : Next)
    → is_some story.loaded.own_alphabets ≡ false → is_played story.version.number ≡ true
    → IfOk r (λ here. Passed story.version first s here t) → IfOk r (λ here. Ahead story first s here t)
quickly_ahead s t (Ok here) story first own played passed =
    let p : Passed story.version first s here t = passed in
    record {
      goes_on = p.goes_on;
      reached = λ turn text.
          let there = p.reached text in (
            there.0,
            reaches_any story turn there.0 first here (state_of s.store text) (state_of t.store text)
                (none_there story.loaded.own_alphabets own) played there.1,
          );
      pictured = λ turn text picture.
          let there = p.reached text in
          leads_flown story turn there.0 first here (state_of s.store text) (state_of t.store text) picture played
          (λ at next u v e. flown_goes_on story turn at next u v (none_there story.loaded.own_alphabets own) played e)
          there.1;
      scripted = λ turn text script.
          let there = p.reached text in
          script_flown story turn there.0 first here (state_of s.store text) (state_of t.store text) script
          (λ at next u v e. flown_goes_on story turn at next u v (none_there story.loaded.own_alphabets own) played e)
          there.1;
      styled = λ turn text styles long.
          let there = p.reached text in
          styles_flown story turn there.0 first here (state_of s.store text) (state_of t.store text) styles played
          (λ at next u v e. flown_goes_on story turn at next u v (none_there story.loaded.own_alphabets own) played e)
          there.1 long;
      lighter = p.lighter;
    }
quickly_ahead s t (Err e) story first own played passed = tt

-- none
pub not_ahead : (s : Recording Contents) (story : Story) (first : Next) → IsSound s.store
    → Ahead story first s first s
not_ahead s story first sound = record {
  goes_on = goes_on_still s sound;
  reached = λ turn text. (0, (refl, refl));
  pictured = λ turn text picture. leads_still story (place turn first) (state_of s.store text) picture;
  scripted = λ turn text script. script_still story (place turn first) (state_of s.store text) script;
  styled = λ turn text styles long. styles_still story (place turn first) (state_of s.store text) styles;
  lighter = λ text. omega arith;
}

-- some steps, and some more
pub reaches_by_on : {H : Type 0} (step : H → State → Out H) (m n : ℕ) (first here next : H) (s t u : State)
    → ReachesBy step n first s here t → ReachesBy step m here t next u
    → (k : ℕ) × ReachesBy step k first s next u
reaches_by_on step zero n first here next s t u a b = (
  n,
  subst (λ x. ReachesBy step n first s x u) (sym b.0)
      (subst (λ x. ReachesBy step n first s here x) (sym b.1) a),
)
reaches_by_on step (suc m) n first here next s t u a b =
    let k = reaches_by_on step m n first here b.0 s t b.1 a b.2 in
    (suc k.0, (b.0, b.1, k.1, b.3))

pub none_yet_by : {H : Type 0} (step : H → State → Out H) (first : H) (s : State)
    → (n : ℕ) × ReachesBy step n first s first s
none_yet_by step first s = (0, (refl, refl))

-- an instruction that ends the turn leaves window, dice and streams as they are
pub stops_around : (story : Story) {first : Here} {s t : State} {here : Next} {p : Place} (a b : TurnState) → b ≡ a
    → StopsBy (any_step story) first s (place a here) p t
    → StopsBy (any_step story) first s (place b here) p t
stops_around story {first} {s} {t} {here} {p} a b e h =
    subst (λ x. StopsBy (any_step story) first s (place x here) p t) (sym e) h

-- where a turn begins
pub begun_place : (from : ℕ) (turn : TurnState) (standard_state : StandardState) (kept : List (List ℕ)) (next : Next)
    → turn.standard_state ≡ standard_state → turn.kept ≡ kept → turn.streams.items ≡ [] → turn.upper ≡ (if standard_state.window == 0 then None else Some (begun_at from))
    → place turn next ≡ begins_after from standard_state kept next
begun_place from turn standard_state kept next e k f g =
    ap (λ b. let h : Here = record (place turn next) { standard_state = b } in h) e
    ∙ ap (λ l. let h : Here = record (place turn next) { standard_state = standard_state; kept = l } in h) k
    ∙ ap (λ l. let h : Here = record (place turn next) { standard_state = standard_state; kept = kept; streams = l } in h) f
    ∙ ap (λ u. let h : Here = record (plain standard_state kept next) { upper = u } in h) g

-- The text of a turn

pub keeps_at : (start long : ℕ) (was now : List ℕ) → start ≡ long → Keeps start was now → Keeps long was now
keeps_at start long was now e k = subst (λ n. Keeps n was now) e k

pub front_kept : (was now : List ℕ) → Keeps (length was) was now → take (length was) now ≡ was
front_kept was now k = k.front ∙ take_all (length was) was (omega arith)

-- what a part of a turn does after text that the turn has printed
pub ends_at_front : {takes : Contents → Type 0} {turn : Whole → Type 0} {s t : Recording Contents} {now : List ℕ}
    (r : Result Place NoMemory) (start : ℕ) (was mid : List ℕ) → start ≡ length was → take (length was) mid ≡ was
    → TurnEndsBy takes turn s (take start mid) t now r → TurnEndsBy takes turn s was t now r
ends_at_front {takes} {turn} {s} {t} {now} r start was mid long front e =
    subst (λ (l : List ℕ). TurnEndsBy takes turn s l t now r) (ap (λ (n : ℕ). take n mid) long ∙ front) e

pub turns_at : {E : Type 0} (machine : Machine Here) (s : Contents) (dice : StandardState) (kept_states : List (List ℕ))
    (first : Next) (whole : Place → Whole) (r : Result Place E) (start : ℕ) (was mid : List ℕ) → start ≡ length was
    → IfOk r (λ place. TurnsBy machine (begins_after (length mid - start) dice kept_states first)
    (state_of s (drop start mid)) (whole place))
    → IfOk r (λ place. TurnsBy machine (begins_after (length (drop (length was) mid)) dice kept_states first)
    (state_of s (drop (length was) mid)) (whole place))
turns_at machine s dice kept_states first whole r start was mid long h =
    subst (λ (n : ℕ). IfOk r (λ place. TurnsBy machine (begins_after (length (drop n mid)) dice kept_states first)
    (state_of s (drop n mid)) (whole place))) long
    (subst (λ (k : ℕ). IfOk r (λ place. TurnsBy machine (begins_after k dice kept_states first)
    (state_of s (drop start mid)) (whole place))) (sym (length-drop start mid)) h)

-- the same where nothing was printed before
pub turns_first : {E : Type 0} (machine : Machine Here) (s : Contents) (dice : StandardState)
    (kept_states : List (List ℕ)) (first : Next) (whole : Place → Whole) (r : Result Place E) (start : ℕ) (was : List ℕ)
    → start ≡ length was
    → IfOk r (λ place. TurnsBy machine (begins_after (length was - start) dice kept_states first)
    (state_of s (drop start was)) (whole place))
    → IfOk r (λ place. TurnsBy machine (begins dice kept_states first) (state_of s []) (whole place))
turns_first machine s dice kept_states first whole r start was long h =
    subst (λ (l : List ℕ). IfOk r (λ place. TurnsBy machine (begins_after (length l) dice kept_states first)
    (state_of s l) (whole place))) (drop_all (length was) was (omega arith))
    (turns_at machine s dice kept_states first whole r start was was long h)

-- what was printed before a place of the text stays
pub front_from : (start : ℕ) (was now : List ℕ) → start ≤ length was → Keeps start was now
    → take (length (take start was)) now ≡ take start was
front_from start was now begun k = ap (λ (n : ℕ). take n now) (length-take-le start was begun) ∙ k.front

pub notice_after : (start : ℕ) (x more y : List ℕ) → start ≤ length x → y ≡ x ++ more → take start y ≡ take start x
notice_after start x more y le is = ap (take start) is ∙ take-append-le start x more le

pub ends_from : {takes : Contents → Type 0} {turn : Whole → Type 0} {s t : Recording Contents} {now : List ℕ}
    (r : Result Place NoMemory) (start : ℕ) (was : List ℕ) → start ≤ length was → take start now ≡ take start was
    → IfOk r (λ place. turn (whole_of t.store place (drop start now)))
    → IfOk r (λ place. place ≡ places.Waiting → takes t.store) → OnOk r (GoesOn s t) → OnErr r (GivenUp s t)
    → TurnEndsBy takes turn s (take start was) t now r
ends_from {takes} {turn} {s} {t} {now} r start was begun front whole waits goes_on given_up =
    let long : length (take start was) ≡ start = length-take-le start was begun in
    record {
      whole = subst (λ (n : ℕ). IfOk r (λ place. turn (whole_of t.store place (drop n now)))) (sym long) whole;
      waits = waits;
      goes_on = goes_on;
      given_up = given_up;
      front = ap (λ (n : ℕ). take n now) long ∙ front;
    }

-- a turn that does not wait shows what is heard
pub shown_heard : (here : Here) (end : Place) (text : List ℕ) → end ≢ places.Waiting
    → shown here end text ≡ heard_of here text
shown_heard here places.Waiting text not = absurd (not refl)
shown_heard here places.Quit text not = refl
shown_heard here (places.Limit limit) text not = refl
shown_heard here (places.Fault cause) text not = refl

-- What was printed before a part of a turn that prints nothing is in the lower window.
lower_all : (b : Bool) (text : List ℕ) → lower (cond b None (Some (begun_at (length text)))) text ≡ text
lower_all true text = refl
lower_all false text = take_all (length text) text (omega arith)

shown_all : (standard_state : StandardState) (kept_states : List (List ℕ)) (next : Next) (end : Place) (text : List ℕ)
    → shown (begins_after (length text) standard_state kept_states next) end text ≡ text
shown_all standard_state kept_states next places.Waiting text = refl
shown_all standard_state kept_states next places.Quit text = lower_all (standard_state.window == 0) text
shown_all standard_state kept_states next (places.Limit limit) text = lower_all (standard_state.window == 0) text
shown_all standard_state kept_states next (places.Fault cause) text = lower_all (standard_state.window == 0) text

ended_all : (standard_state : StandardState) (kept_states : List (List ℕ)) (next : Next) (end : Place) (m : Contents)
    (text : List ℕ)
    → standard_ended (begins_after (length text) standard_state kept_states next) end (state_of m text)
    ≡ with_standard_state standard_state kept_states (ended next end (state_of m text))
ended_all standard_state kept_states next end m text =
    ap (λ l. with_standard_state standard_state kept_states (ended next end (state_of m l)))
    (shown_all standard_state kept_states next end text)

-- The end of a turn

-- the whole state that is left, where the text was cut
pub standard_whole : (story : Story) (first : Here) (turn : TurnState) (here : Next) (end : Place) (s : State)
    (m n : Contents) (x z y : List ℕ) (long : ℕ)
    → StopsBy (any_step story) first s (place turn here) end (state_of m (drop long x))
    → ((l : List ℕ) → state_of n l ≡ state_of m l) → program_counter_of (slice_index n.cells) ≡ here.program_counter
    → standard_state_of (slice_index n.cells) ≡ turn.standard_state → drop long z ≡ shown (place turn here) end (drop long x)
    → y ≡ z ++ notice end → long ≤ length z
    → TurnsBy (any story) first s (keeping turn.kept (whole_of n end (drop long y)))
standard_whole story first turn here end s m n x z y long h same counter kept cut text le =
    let stopped = stops_whole (any story) first (place turn here) end s (state_of m (drop long x)) h in
    let words : drop long y ≡ shown (place turn here) end (drop long x) ++ notice end = ap (drop long) text
    ∙ drop-append-le long z (notice end) le ∙ ap (λ l. l ++ notice end) cut in
    let e : standard_ended (place turn here) end (state_of m (drop long x))
    ≡ standard_ended (place turn here) end (state_of n (drop long x)) =
    ap (standard_ended (place turn here) end) (sym (same (drop long x))) in
    let f : standard_ended (place turn here) end (state_of n (drop long x))
    ≡ keeping turn.kept (whole_of n end (drop long y)) =
    rw (words, counter, kept) refl in
    subst (λ w. TurnsBy (any story) first s w) (e ∙ f) stopped

-- what the machine waits for can be given to a store of the same state
pub right_after : (story : Story) (m n : Contents) (text : List ℕ) → WaitsForLine story (state_of m text)
    → ((l : List ℕ) → state_of n l ≡ state_of m l) → CanBeGivenBy story n
right_after story m n text w same = record {
  pending = w.pending;
  waits = ap (λ (t : State). t.pending) (same text) ∙ w.waits;
  right = ap (λ (t : State). can_be_given story t.memory w.pending.text_buffer w.pending.parse_buffer) (same text)
      ∙ w.right;
}

-- a turn that stopped to wait
pub standard_waits : (story : Story) (first here : Here) (end : Place) (s : State) (m n : Contents) (text : List ℕ)
    → StopsBy (any_step story) first s here end (state_of m text)
    → ((l : List ℕ) → state_of n l ≡ state_of m l) → end ≡ places.Waiting → CanBeGivenBy story n
standard_waits story first here end s m n text stops same e =
    right_after story m n text
    (any_step_waits story here stops.before (state_of m text)
    (stops.stops ∙ ap (λ p. halt p (state_of m text)) e)) same

-- what is given ends the turn at once, after text that it printed
pub stopped_standard : (m n : Contents) (standard_state : StandardState) (kept_states : List (List ℕ)) (fuel counter : ℕ)
    (end : Place) (start : ℕ) (x y : List ℕ) → start ≤ length x
    → ((l : List ℕ) → state_of n l ≡ state_of m l) → program_counter_of (slice_index n.cells) ≡ counter
    → standard_state_of (slice_index n.cells) ≡ standard_state → y ≡ x ++ notice end
    → keeping kept_states (whole_of n end (drop start y))
    ≡ standard_ended (begins_after (length (drop start x)) standard_state kept_states
    (record { program_counter = counter; fuel = fuel })) end (state_of m (drop start x))
stopped_standard m n standard_state kept_states fuel counter end start x y le same kept rest text =
    let here : Next = record { program_counter = counter; fuel = fuel } in
    let u : List ℕ = drop start x in
    let d : drop start y ≡ u ++ notice end = ap (drop start) text ∙ drop-append-le start x (notice end) le in
    let f : keeping kept_states (whole_of n end (drop start y))
    ≡ with_standard_state standard_state kept_states (ended here end (state_of n u)) = rw (d, kept, rest) refl in
    f ∙ sym (ended_all standard_state kept_states here end n u)
    ∙ ap (standard_ended (begins_after (length u) standard_state kept_states here) end) (same u)

-- the opening
opens : (story : Story) (kept_states : List (List ℕ)) (s : Contents) (fuel : ℕ) (first : Next) (memory : List ℕ) (whole : Whole) → IsOpening s
    → memory ≡ memory_of s → first ≡ first_next memory fuel
    → TurnsBy (any story) (begins story.loaded.dice kept_states first) (state_of s []) whole → OpensStandard story kept_states s fuel whole
opens story kept_states s fuel first memory whole begin is e h =
    subst (λ n. TurnsBy (any story) (begins story.loaded.dice kept_states n) (first_state (memory_of s)) whole)
    (e ∙ ap (λ m. first_next m fuel) is)
    (subst (λ t. TurnsBy (any story) (begins story.loaded.dice kept_states first) t whole) begin.first h)

pub opens_standard : {E : Type 0} (result : Result Place E) (story : Story) (kept_states : List (List ℕ)) (s : Contents) (fuel : ℕ) (dice : StandardState)
    (first : Next) (memory : List ℕ) (whole : Place → Whole) → dice ≡ story.loaded.dice → IsOpening s
    → memory ≡ memory_of s → first ≡ first_next memory fuel
    → IfOk result (λ place. TurnsBy (any story) (begins dice kept_states first) (state_of s []) (whole place))
    → IfOk result (λ place. OpensStandard story kept_states s fuel (whole place))
opens_standard (Ok place) story kept_states s fuel dice first memory whole d begin is e h =
    opens story kept_states s fuel first memory (whole place) begin is e
    (subst (λ b. TurnsBy (any story) (begins b kept_states first) (state_of s []) (whole place)) d h)
opens_standard (Err x) story kept_states s fuel dice first memory whole d begin is e h = tt
