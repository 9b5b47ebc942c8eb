-- The transcript along the steps of a turn: steps that units do print nothing.
use Rattle.std.proofs.Common.{◌≡◌, ◌≤◌, ◌∙◌, ℕ, ◌+◌, zero, suc, Bool, true, false, List, [], ◌++◌, length, drop}
use Rattle.std.proofs.Common.{ap, subst, sym, refl, arith, Some, Result, Ok, Err}
use Rattle.std.specs.Prelude.{if◌then◌else◌}
use Rattle.std.proofs.lemmas.List.{append-nil, drop_all, drop-drop, length-drop}
use Rattle.journal.specs.Recording.{Recording}
use Rattle.zcore.specs.declared.next.Next.{Next}
use Rattle.zcore.specs.declared.place.Place.{Place}
use Rattle.zcore.specs.State.{State, Out, done, halt}
use Rattle.zcore.specs.Turn.{ReachesBy, after_step, is_waiting}
use Rattle.zcore_standard.specs.Loaded.{Loaded}
use Rattle.zcore_standard.specs.Place.{Here}
use Rattle.zcore_versions.specs.Machine.{any_step}
use Rattle.zcore_versions.specs.Versions.{Story}
use Rattle.machine_frames.specs.Contents.{Contents}
use Rattle.machine_frames.specs.States.{state_of}
use Rattle.machine_frames.specs.Went.{GivenUp, Told, ToldEnd}
use Rattle.machine_frames.specs.declared.end.End.{End}
use Rattle.machine_frames.specs.declared.end.End.TheVariants as ends
use Rattle.machine_frames.proofs.Steps.{given_up_after}
use Rattle.machine_arms.specs.Passed.{flown}
use Rattle.machine_arms.proofs.Flown.{flown_silent}
use Rattle.machine_standard_windows.specs.TurnState.{place}
use Rattle.machine_standard_windows.specs.declared.turn_state.TurnState.{TurnState}
use Rattle.machine_standard.specs.Playing.{LeadsScript}
use Rattle.machine_standard.specs.Script.{Scripts, added, is_scripted, last_added, script_by}
use Rattle.machine_standard.specs.Scripts.{AddsPrinted, AddsScript}

-- What is added

nothing_by : (b : Bool) (l : List ℕ) → l ≡ [] → (if b then l else []) ≡ []
nothing_by true l e = e
nothing_by false l e = refl

-- a step that leaves the text as long as it was adds nothing
none_added : (loaded : Loaded) (here : Here) (s : State) (text : List ℕ) → length text ≡ length s.text
    → added loaded here s text ≡ []
none_added loaded here s text e =
    nothing_by (is_scripted loaded here s) (drop (length s.text) text) (drop_all (length s.text) text (omega (arith, e)))

-- what a text has after a place of it, where a turn's text begins before
pub dropped : (start long : ℕ) (was now : List ℕ) → start ≤ length was → long ≡ length was
    → drop (length (drop start was)) (drop start now) ≡ drop long now
dropped start long was now begun e =
    let n : start + length (drop start was) ≡ long = omega (arith, length-drop start was, e) in
    drop-drop (length (drop start was)) start now ∙ ap (λ (k : ℕ). drop k now) n

-- what a step has printed goes there, by the whole text in which the turn's begins at a place
printed_as : (loaded : Loaded) (here : Here) (s : State) (start long : ℕ) (was now : List ℕ) → start ≤ length was
    → long ≡ length was → s.text ≡ drop start was → is_scripted loaded here s ≡ true
    → drop long now ≡ added loaded here s (drop start now)
printed_as loaded here s start long was now begun e text is =
    sym (ap (λ (b : Bool). if b then drop (length s.text) (drop start now) else []) is
    ∙ ap (λ (l : List ℕ). drop (length l) (drop start now)) text ∙ dropped start long was now begun e)

pub adds_printed : (result : Result Next End) (loaded : Loaded) (here : Here) (s : State) (start long : ℕ)
    (was now p q : List ℕ) → start ≤ length was → long ≡ length was → s.text ≡ drop start was
    → is_scripted loaded here s ≡ true → AddsPrinted result (drop long now) p q
    → AddsScript result loaded here s (drop start now) p q
adds_printed (Ok next) loaded here s start long was now p q begun e text is h =
    h ∙ ap (λ (l : List ℕ). p ++ l) (printed_as loaded here s start long was now begun e text is)
adds_printed (Err (ends.Stop end)) loaded here s start long was now p q begun e text is h =
    h
    ∙ ap (λ (l : List ℕ). p ++ (if is_waiting end then [] else l))
    (printed_as loaded here s start long was now begun e text is)
adds_printed (Err ends.Memory) loaded here s start long was now p q begun e text is h = tt

-- and nothing where it does not go there
nothing_waits : (b : Bool) (l : List ℕ) → l ≡ [] → (if b then [] else l) ≡ []
nothing_waits true l e = refl
nothing_waits false l e = e

pub adds_nothing : (result : Result Next End) (loaded : Loaded) (here : Here) (s : State) (text p : List ℕ)
    → is_scripted loaded here s ≡ false → AddsScript result loaded here s text p p
adds_nothing (Ok next) loaded here s text p is =
    sym (ap (λ (b : Bool). p ++ (if b then drop (length s.text) text else [])) is ∙ append-nil p)
adds_nothing (Err (ends.Stop end)) loaded here s text p is =
    let none = ap (λ (b : Bool). if b then drop (length s.text) text else []) is in
    sym (ap (λ (l : List ℕ). p ++ l) (nothing_waits (is_waiting end) (added loaded here s text) none) ∙ append-nil p)
adds_nothing (Err ends.Memory) loaded here s text p is = tt

-- Memory was refused to the transcript, whatever the step came to: the turn is given up.
pub refused : {A : Type 0} (result : Result A End) {s t u : Recording Contents} {x y : List ℕ} {f : State → Out A}
    → Told result s x t y f → GivenUp t u → GivenUp s u
refused (Ok a) v g = given_up_after v.told.0 g
refused (Err (ends.Stop end)) v g = given_up_after v.told.0 g
refused (Err ends.Memory) v g = record {
  cells = g.cells ∙ v.told.beginning;
  beginning = g.beginning ∙ v.told.beginning;
  kept = g.kept;
  fixed = g.fixed ∙ v.told.fixed;
}

-- Whatever goes there from here on

pub script_still : (story : Story) (here : Here) (s : State) (script : List ℕ) → LeadsScript story here s script here s script
script_still story here s script = record {
  count = 0;
  leads = λ rest.
      let n : 0 + rest ≡ rest = omega arith in
      ap (λ k. script_by story k here s script) n;
}

pub script_on : {story : Story} {a b c : Here} {s t u : State} {p q r : List ℕ} → LeadsScript story a s p b t q
    → LeadsScript story b t q c u r → LeadsScript story a s p c u r
script_on {story} {a} {b} {c} {s} {t} {u} {p} {q} {r} x y = record {
  count = x.count + y.count;
  leads = λ rest.
      let e : x.count + y.count + rest ≡ x.count + (y.count + rest) = omega arith in
      ap (λ n. script_by story n a s p) e ∙ x.leads (y.count + rest) ∙ y.leads rest;
}

-- one step
goes_by : (story : Story) (here next : Here) (s t : State) (p q : List ℕ) (rest : ℕ)
    → any_step story here s ≡ done next t → q ≡ p ++ added story.loaded here s t.text
    → script_by story (suc rest) here s p ≡ script_by story rest next t q
unfolding script_by
goes_by story here next s t p q rest e is =
    ap (λ o. after_step o (λ next t. script_by story rest next t (p ++ added story.loaded here s t.text))
    (λ place t. Some (p ++ last_added story.loaded place here s t.text))) e
    ∙ ap (script_by story rest next t) (sym is)

pub script_step : (story : Story) (here next : Here) (s t : State) (p q : List ℕ) → any_step story here s ≡ done next t
    → q ≡ p ++ added story.loaded here s t.text → LeadsScript story here s p next t q
script_step story here next s t p q e is = record {
  count = 1;
  leads = λ rest.
      let n : 1 + rest ≡ suc rest = omega arith in
      ap (λ k. script_by story k here s p) n ∙ goes_by story here next s t p q rest e is;
}

-- the last step
ends_by : (story : Story) (here : Here) (end : Place) (s t : State) (p q : List ℕ) (rest : ℕ)
    → any_step story here s ≡ halt end t → q ≡ p ++ last_added story.loaded end here s t.text
    → script_by story (suc rest) here s p ≡ Some q
unfolding script_by
ends_by story here end s t p q rest e is =
    ap (λ o. after_step o (λ next t. script_by story rest next t (p ++ added story.loaded here s t.text))
    (λ place t. Some (p ++ last_added story.loaded place here s t.text))) e
    ∙ ap (λ (x : List ℕ). Some x) (sym is)

script_end : (story : Story) (first here : Here) (end : Place) (s t u : State) (p q r : List ℕ)
    → LeadsScript story first s p here t q → any_step story here t ≡ halt end u
    → r ≡ q ++ last_added story.loaded end here t u.text → Scripts story first s p r
script_end story first here end s t u p q r leads e is =
    record { count = leads.count + 1; scripts = leads.leads 1 ∙ ends_by story here end t u q r 0 e is }

-- Steps that units do add nothing.
pub script_flown : (story : Story) (turn : TurnState) (count : ℕ) (first here : Next) (s t : State) (script : List ℕ)
    → ((at next : Next) (u v : State) → flown story.version at u ≡ done next v
    → any_step story (place turn at) u ≡ done (place turn next) v)
    → ReachesBy (flown story.version) count first s here t
    → LeadsScript story (place turn first) s script (place turn here) t script
script_flown story turn zero first here s t script steps h =
    subst (λ n. LeadsScript story (place turn first) s script (place turn n) t script) (sym h.0)
    (subst (λ u. LeadsScript story (place turn first) s script (place turn first) u script) (sym h.1)
    (script_still story (place turn first) s script))
script_flown story turn (suc count) first here s t script steps h =
    let mid : Next = h.0 in
    let between : State = h.1 in
    let none = none_added story.loaded (place turn mid) between t.text
    (flown_silent story.version mid here between t h.3).1 in
    script_on (script_flown story turn count first mid s between script steps h.2)
    (script_step story (place turn mid) (place turn here) between t script script (steps mid here between t h.3)
    (sym (ap (λ (l : List ℕ). script ++ l) none ∙ append-nil script)))

-- A slow step

pub script_slow : (story : Story) (turn new : TurnState) (here next : Next) (s t : Recording Contents) (x y : List ℕ)
    (start : ℕ) (p q : List ℕ)
    → Told (Ok (place new next)) s (drop start x) t (drop start y) (any_step story (place turn here))
    → AddsScript (Ok next) story.loaded (place turn here) (state_of s.store (drop start x)) (drop start y) p q
    → LeadsScript story (place turn here) (state_of s.store (drop start x)) p (place new next)
    (state_of t.store (drop start y)) q
script_slow story turn new here next s t x y start p q told is =
    script_step story (place turn here) (place new next) (state_of s.store (drop start x)) (state_of t.store (drop start y))
    p q told.told.1 is

pub script_ends : (story : Story) (first : Here) (turn : TurnState) (here : Next) (end : Place) (s : State)
    (t u : Recording Contents) (x y : List ℕ) (start : ℕ) (p q r : List ℕ)
    → LeadsScript story first s p (place turn here) (state_of t.store (drop start x)) q
    → ToldEnd (ends.Stop end) t (drop start x) u (drop start y) (any_step story (place turn here))
    → AddsScript (Err (ends.Stop end)) story.loaded (place turn here) (state_of t.store (drop start x)) (drop start y) q r
    → Scripts story first s p r
script_ends story first turn here end s t u x y start p q r led told is =
    script_end story first (place turn here) end s (state_of t.store (drop start x)) (state_of u.store (drop start y))
    p q r led told.1 is
