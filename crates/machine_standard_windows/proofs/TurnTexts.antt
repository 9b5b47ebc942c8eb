-- The text of a turn, of which the end is cut.
use Rattle.std.proofs.Common.{◌≡◌, ℕ, ◌+◌, ◌-◌, ◌≤◌, List, length, take, drop, min, refl, ap, sym, ◌∙◌, subst, arith}
use Rattle.std.proofs.Common.{inl, inr, Result, Err}
use Rattle.std.specs.Result.{IsErrAnd}
use Rattle.std.proofs.lemmas.Bool.{cases_lt}
use Rattle.std.proofs.lemmas.List.{drop-drop, drop-take, drop_all, take_all, take-take, length-drop, length-take-le}
use Rattle.std.proofs.lemmas.Result.{err_from_is_err_and}
use Rattle.journal.specs.Recording.{Recording}
use Rattle.zcore.specs.declared.next.Next.{Next}
use Rattle.zcore.specs.State.{State, Out}
use Rattle.zcore_standard.specs.Place.{Here}
use Rattle.machine_frames.specs.Contents.{Contents}
use Rattle.machine_frames.specs.Went.{Told}
use Rattle.machine_frames.specs.declared.end.End.{End}
use Rattle.machine_opcodes.specs.Printed.{HasBegun, Grew}
use Rattle.machine_decoding.specs.Seen.{seen}
use Rattle.machine_standard_windows.specs.TurnState.{Keeps}

pub keeps_still : (start : ℕ) (x : List ℕ) → HasBegun start x → Keeps start x x
keeps_still start x h = record { front = refl; begun = h.begun; within = h.within }

pub keeps_grew : {start : ℕ} {x y : List ℕ} → HasBegun start x → Grew start x y → Keeps start x y
keeps_grew h g = record { front = g.front; begun = omega (arith, h.begun, g.longer); within = g.within }

pub keeps_after : {start : ℕ} {x y z : List ℕ} → Keeps start x y → Keeps start y z → Keeps start x z
keeps_after a b = record { front = b.front ∙ a.front; begun = b.begun; within = b.within }

pub keeps_begun : {start : ℕ} {x y : List ℕ} → Keeps start x y → HasBegun start y
keeps_begun k = record { begun = k.begun; within = k.within }

pub keeps_cut : (start kept : ℕ) (x y : List ℕ) → HasBegun start x → start + kept ≤ length x
    → y ≡ take (start + kept) x → Keeps start x y
keeps_cut start kept x y h le is =
    let long : length y ≡ start + kept = ap length is ∙ length-take-le (start + kept) x le in
    record {
      front = ap (take start) is ∙ take-take start (start + kept) x (omega arith);
      begun = omega (arith, long);
      within = omega (arith, long, le, h.within);
    }

-- a place of the turn's text, as far as there is text
pub text_cut : (start from kept : ℕ) (x : List ℕ) → start ≤ length x → kept ≡ min from (length x - start)
    → drop start (take (start + kept) x) ≡ take from (drop start x)
text_cut start from kept x begun is = elim (cases_lt from (length x - start)) [
  | inl lt ↦
      let e : kept ≡ from = omega (arith, is, lt) in
      drop-take start kept x ∙ ap (λ n. take n (drop start x)) e
  | inr ge ↦
      let e : kept ≡ length x - start = omega (arith, is, ge) in
      drop-take start kept x ∙ take_all kept (drop start x) (omega (arith, e, length-drop start x))
      ∙ sym (take_all from (drop start x) (omega (arith, ge, length-drop start x)))
]

pub text_behind : (start from kept : ℕ) (x : List ℕ) → start ≤ length x → kept ≡ min from (length x - start)
    → drop from (drop start x) ≡ drop (start + kept) x
text_behind start from kept x begun is = elim (cases_lt from (length x - start)) [
  | inl lt ↦
      let e : from ≡ kept = omega (arith, is, lt) in
      drop-drop from start x ∙ ap (λ n. drop (start + n) x) e
  | inr ge ↦
      let e : kept ≡ length x - start = omega (arith, is, ge) in
      drop_all from (drop start x) (omega (arith, ge, length-drop start x))
      ∙ sym (drop_all (start + kept) x (omega (arith, e, begun)))
]

pub keeps_same : (start : ℕ) (x y : List ℕ) → HasBegun start x → y ≡ x → Keeps start x y
keeps_same start x y h is = subst (Keeps start x) (sym is) (keeps_still start x h)

-- at the exit of a `?`
pub told_seen_err : {s t : Recording Contents} {x y : List ℕ} {e : End} {f : State → Out Here} (view : Next → Here)
    (r : Result Next End) → IsErrAnd r (λ q. q ≡ e) → Told {A = Here} (Err e) s x t y f → Told (seen view r) s x t y f
told_seen_err view r h w =
    let p = err_from_is_err_and r h in
    rw (p.1, p.2) w
