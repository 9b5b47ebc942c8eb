-- The prompt for the name of a saved game.
use Rattle.std.proofs.Common.{◌≡◌, ℕ, ◌+◌, ◌-◌, ◌<◌, ◌≤◌, Bool, if◌then◌else◌, List, ◌++◌, length, take, drop, replicate}
use Rattle.std.proofs.Common.{refl, ap, sym, ◌∙◌, subst, arith, append_assoc, Option, Some, None, Result, Ok, Err}
use Rattle.std.specs.Prelude.{OnErr, OnOk}
use Rattle.std.specs.Option.{is_some}
use Rattle.std.specs.Result.{is_ok}
use Rattle.std.proofs.lemmas.Bool.{le-leb, lt-leb}
use Rattle.std.proofs.lemmas.List.{drop-append-le, length-append, length-drop, length-replicate, length-take, take-append-le, take_all, take-take}
use Rattle.journal.specs.Recording.{Recording}
use Rattle.zcore.specs.declared.place.Limit.TheVariants as limits
use Rattle.zcore.specs.declared.place.Place.TheVariants as places
use Rattle.zcore.specs.declared.next.Next.{Next}
use Rattle.zcore.specs.State.{State, Out, done, halt}
use Rattle.zcore_standard.specs.Loaded.{Loaded}
use Rattle.zcore_standard.specs.Place.{Here, on, within}
use Rattle.zcore_standard.specs.declared.save_form.Purpose.{Purpose}
use Rattle.zcore_standard.specs.Saving.{pause, pause_or, prompt, put_prompt}
use Rattle.zcore_standard.specs.Windows.{redraw, with_new_line}
use Rattle.machine_frames.specs.States.{state_of, IsSound}
use Rattle.machine_frames.specs.Went.{Told}
use Rattle.machine_frames.specs.declared.end.End.{End}
use Rattle.machine_frames.specs.declared.end.End.TheVariants as ends
use Rattle.machine_decoding.specs.Seen.{seen}
use Rattle.machine_frames.specs.Contents.{Contents}
use Rattle.machine_standard_opcodes.proofs.Keeping.{told_within}
use Rattle.machine_frames.proofs.Steps.{goes_on_still, told_as, told_halt}
use Rattle.machine_opcodes.specs.Printed.{HasBegun}
use Rattle.machine_standard_windows.specs.TurnState.{Keeps}

-- what the text of the turn becomes
abbrev prompted : ℕ → List ℕ → List ℕ
prompted start x = with_new_line (drop start x) ++ prompt

pub prompt_length : length prompt ≡ 24
prompt_length = refl

prompted_length : (start lines : ℕ) (x : List ℕ) → with_new_line (drop start x) ≡ drop start x ++ replicate lines 10
    → length (prompted start x) ≡ length x - start + lines + 24
prompted_length start lines x new = omega (
  arith,
  prompt_length,
  length-append (with_new_line (drop start x)) prompt,
  ap length new,
  length-append (drop start x) (replicate lines 10),
  length-replicate {A = ℕ} lines 10,
  length-drop start x,
)

-- the last line of the turn's text, as it was looked at
pub new_line_of : (start lines : ℕ) (x whole : List ℕ) → whole ≡ x
    → with_new_line (take (length whole - start) (drop start whole))
    ≡ take (length whole - start) (drop start whole) ++ replicate lines 10
    → with_new_line (drop start x) ≡ drop start x ++ replicate lines 10
new_line_of start lines x whole same new =
    let all : take (length whole - start) (drop start whole) ≡ drop start x =
    take_all (length whole - start) (drop start whole) (omega (arith, length-drop start whole)) ∙ ap (drop start) same in
    subst (λ (l : List ℕ). with_new_line l ≡ l ++ replicate lines 10) all new

pub prompt_told : (s : Recording Contents) (start lines : ℕ) (x y : List ℕ) → IsSound s.store → start ≤ length x
    → with_new_line (drop start x) ≡ drop start x ++ replicate lines 10 → y ≡ x ++ (replicate lines 10 ++ prompt)
    → length x - start + lines + 24 ≤ 65536 → Told (Ok tt) s (drop start x) s (drop start y) put_prompt
unfolding put_prompt redraw
prompt_told s start lines x y sound begun new is few =
    let text : drop start y ≡ prompted start x =
    ap (drop start) is ∙ drop-append-le start x (replicate lines 10 ++ prompt) begun
    ∙ sym (append_assoc (drop start x) (replicate lines 10) prompt) ∙ ap (λ (l : List ℕ). l ++ prompt) (sym new) in
    let fits : length (prompted start x) ≤ 65536 = omega (arith, prompted_length start lines x new, few) in
    record {
      told = (
        goes_on_still s sound,
        ap (λ (b : Bool). if b then done tt (state_of s.store (prompted start x))
            else halt (places.Limit limits.Text) (state_of s.store (drop start x))) (le-leb _ _ fits)
            ∙ ap (λ (l : List ℕ). done tt (state_of s.store l)) (sym text),
      );
    }

pub prompt_limited : (s : Recording Contents) (start lines : ℕ) (x : List ℕ) → IsSound s.store
    → with_new_line (drop start x) ≡ drop start x ++ replicate lines 10 → 65536 < length x - start + lines + 24
    → Told (Err (ends.Stop (places.Limit limits.Text))) s (drop start x) s (drop start x) put_prompt
unfolding put_prompt redraw
prompt_limited s start lines x sound new many =
    told_halt s put_prompt (drop start x) sound
    (ap (λ (b : Bool). if b then done tt (state_of s.store (prompted start x))
    else halt (places.Limit limits.Text) (state_of s.store (drop start x)))
    (lt-leb (length (prompted start x)) 65536 (omega (arith, prompted_length start lines x new, many))))

-- what was printed before the turn stays
pub keeps_prompt : (start : ℕ) (x y : List ℕ) → HasBegun start x → take (length x) y ≡ x
    → length y ≤ start + 65536 → Keeps start x y
keeps_prompt start x y h front within =
    let longer : length x ≤ length y = omega (arith, ap length front, length-take (length x) y) in
    record {
      front = sym (take-take start (length x) y h.begun) ∙ ap (take start) front;
      begun = omega (arith, h.begun, longer);
      within = within;
    }

-- Whether the player has save files

pub paused : {s t : Recording Contents} {x y : List ℕ} (r : Result Here End) (loaded : Loaded) (story : List ℕ)
    (purpose : Purpose) (here : Here) (place : ℕ) (result : Option ℕ) (fails : State → Out Next)
    → loaded.saves ≡ Some story → Told r s x t y (pause loaded purpose here place result)
    → Told r s x t y (pause_or loaded purpose here place result fails)
paused {s} {t} {x} r loaded story purpose here place result fails some w =
    told_as r (pause_or loaded purpose here place result fails)
    (ap (λ (o : Option (List ℕ)). if is_some o then pause loaded purpose here place result (state_of s.store x)
    else within here (fails (state_of s.store x))) some) w

pub not_paused : {s t : Recording Contents} {x y : List ℕ} (r : Result Next End) (loaded : Loaded) (purpose : Purpose)
    (here : Here) (place : ℕ) (result : Option ℕ) (fails : State → Out Next) → loaded.saves ≡ None
    → Told r s x t y fails → Told (seen (on here) r) s x t y (pause_or loaded purpose here place result fails)
not_paused {s} {t} {x} r loaded purpose here place result fails none w =
    told_as (seen (on here) r) (pause_or loaded purpose here place result fails)
    (ap (λ (o : Option (List ℕ)). if is_some o then pause loaded purpose here place result (state_of s.store x)
    else within here (fails (state_of s.store x))) none)
    (told_within r here fails w)

-- Newlines and bytes that are added

pub lines_added : {E : Type 0} (r : Result (Unit {0}) E) (n m lines : ℕ) (t y : List ℕ) → m ≡ length t → n ≡ m + lines
    → y ≡ (if is_ok r then take n t ++ replicate (n - m) 10 else t) → OnOk r (y ≡ t ++ replicate lines 10)
lines_added (Ok u) n m lines t y long size items =
    let more : n - m ≡ lines = omega (arith, size) in
    items ∙ ap (λ (l : List ℕ). l ++ replicate (n - m) 10) (take_all n t (omega (arith, long, size)))
    ∙ ap (λ (k : ℕ). t ++ replicate k 10) more
lines_added (Err f) n m lines t y long size items = tt

pub none_added : {E : Type 0} (r : Result (Unit {0}) E) (n m : ℕ) (t y : List ℕ)
    → y ≡ (if is_ok r then take n t ++ replicate (n - m) 10 else t) → OnErr r (y ≡ t)
none_added (Ok u) n m t y items = tt
none_added (Err f) n m t y items = items

pub front_stays : (x more y : List ℕ) → y ≡ x ++ more → take (length x) y ≡ x
front_stays x more y is =
    ap (take (length x)) is ∙ take-append-le (length x) x more (omega arith) ∙ take_all (length x) x (omega arith)
