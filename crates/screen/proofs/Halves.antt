-- The halves of a status line.
use Rattle.std.proofs.Common.{◌≡◌, ℕ, ◌+◌, ◌<◌, ◌≤◌, true, false, List, ◌∷◌, drop, length, refl, ap, sym, ◌∙◌}
use Rattle.std.proofs.Common.{◌-◌, add-one, arith, drop-cons, slice_index, Bool, if◌then◌else◌}
use Rattle.std.proofs.lemmas.List.{drop_all, length-drop}
use Rattle.screen.specs.Status.{begins_right, right_after}

-- one byte further
right_further : (line found : List ℕ) (k : ℕ) → k < length line
    → right_after found (drop k line)
    ≡ right_after (if begins_right (drop k line) then drop k line else found) (drop (k + 1) line)
unfolding right_after
right_further line found k lt =
    let next : drop k line ≡ slice_index line k ∷ drop (k + 1) line = rw add-one (drop-cons line k 0 lt) in
    ap (right_after found) next
    ∙ ap (λ (t : List ℕ). right_after (if begins_right t then t else found) (drop (k + 1) line)) (sym next)

pub right_skips : (line found rest : List ℕ) (k : ℕ) (whole : List ℕ) → k < length line → rest ≡ drop k line
    → begins_right rest ≡ false → right_after found (drop k line) ≡ whole
    → right_after found (drop (k + 1) line) ≡ whole
right_skips line found rest k whole lt is other so =
    ap (λ (b : Bool). right_after (if b then drop k line else found) (drop (k + 1) line))
    (sym (ap begins_right (sym is) ∙ other))
    ∙ sym (right_further line found k lt) ∙ so

pub right_takes : (line found rest : List ℕ) (k : ℕ) (whole : List ℕ) → k < length line → rest ≡ drop k line
    → begins_right rest ≡ true → right_after found (drop k line) ≡ whole
    → right_after rest (drop (k + 1) line) ≡ whole
right_takes line found rest k whole lt is begins so =
    ap (λ (t : List ℕ). right_after t (drop (k + 1) line)) is
    ∙ ap (λ (b : Bool). right_after (if b then drop k line else found) (drop (k + 1) line))
    (sym (ap begins_right (sym is) ∙ begins))
    ∙ sym (right_further line found k lt) ∙ so

pub right_end : (line found : List ℕ) (k : ℕ) (whole : List ℕ) → length line ≤ k
    → right_after found (drop k line) ≡ whole → found ≡ whole
unfolding right_after
right_end line found k whole le so = sym (ap (right_after found) (drop_all k line le)) ∙ so

-- what begins at a place

pub no_longer : (line rest : List ℕ) (k : ℕ) → rest ≡ drop k line → length rest ≤ length line
no_longer line rest k is =
    let long : length rest ≡ length line - k = ap length is ∙ length-drop k line in
    omega (arith, long)
