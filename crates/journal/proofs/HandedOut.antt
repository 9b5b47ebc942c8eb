-- What a closed turn's record holds: the cells of the kept pages, each once, with their values at the turn's
-- beginning.
use Rattle.std.proofs.Common.{◌≡◌, ◌≢◌, ℕ, ◌<◌, ◌≤◌, true, false, Bool, ◌||◌, eqb, List, [], ◌∷◌, length, map, set}
use Rattle.std.proofs.Common.{refl, ap, sym, subst, ◌∙◌, arith, slice_index, AllPairs, inl, inr}
use Rattle.std.specs.List.{IsDistinct, list_any, zip}
use Rattle.std.proofs.lemmas.Bool.{eq-eqb}
use Rattle.std.proofs.lemmas.Bool.Decides.{Decides-eqb, eqb_tells}
use Rattle.std.proofs.lemmas.List.{get_or-set_same, get_or-set_other}
use Rattle.std.proofs.lemmas.Map.Keys.{IsDistinct-head, IsDistinct-tail}
use Rattle.std.proofs.lemmas.Map.Made.{AllPairs-from_IsDistinct}
use Rattle.std.proofs.lemmas.Slice.Zip.{firsts-zip, seconds-zip}
use Rattle.journal.specs.Swap.{back, entry_cells, entry_values}
use Rattle.journal.specs.Pages.{IsPaged, cells_of, values_of}
use Rattle.journal.proofs.Packed.{has_values}
use Rattle.journal.proofs.Pages.{HasValues, all_by_none, cell_kept, distinct_cells, length-cells_of-le, not_both, or_true}
use Rattle.journal.proofs.Steps.{length-entries}
use Rattle.journal.proofs.Swaps.{length-back}

-- a write to a cell that is not among them leaves the values of cells as they were
map_off : (x : List ℕ) (a v : ℕ) (cs : List ℕ) → list_any (eqb a) cs ≡ false
    → map (slice_index (set x a v)) cs ≡ map (slice_index x) cs
map_off x a v [] h = refl
map_off x a v (b ∷ cs) h = elim (eqb_tells a b) as
    (λ _. map (slice_index (set x a v)) (b ∷ cs) ≡ map (slice_index x) (b ∷ cs)) [
      | inl s ↦ absurd (not_both _ (ap (λ (t : Bool). t || list_any (eqb a) cs) s.0) h)
      | inr d ↦
          let here : slice_index (set x a v) b ≡ slice_index x b = get_or-set_other x a b v 0 (λ e. d.1 (sym e)) in
          ap (λ (t : ℕ). t ∷ map (slice_index (set x a v)) cs) here
          ∙ ap (λ (t : List ℕ). slice_index x b ∷ t) (map_off x a v cs (rw d.0 at h))
    ]

-- gone back, each of distinct cells has the value that its entry holds
pub back_values : (c cs vs : List ℕ) → length vs ≡ length cs → IsDistinct eqb cs
    → ((q : ℕ) → list_any (eqb q) cs ≡ true → q < length c) → map (slice_index (back c (zip cs vs)).cells) cs ≡ vs
back_values c [] [] p d h = refl
back_values c [] (v ∷ vs) p d h = absurd (omega (arith, p))
back_values c (a ∷ cs) [] p d h = absurd (omega (arith, p))
back_values c (a ∷ cs) (v ∷ vs) p d h =
    let x : List ℕ = (back c (zip cs vs)).cells in
    let in_range : a < length x = omega
    (arith, length-back c (zip cs vs), h a (ap (λ (t : Bool). t || list_any (eqb a) cs) (eq-eqb a a refl))) in
    let here : slice_index (set x a v) a ≡ v = get_or-set_same x a v 0 in_range in
    let apart : list_any (eqb a) cs ≡ false = all_by_none a cs (IsDistinct-head eqb a cs d) in
    let rest : map (slice_index x) cs ≡ vs = back_values c cs vs (omega (arith, p)) (IsDistinct-tail eqb a cs d)
    (λ q t. h q (ap (λ (s : Bool). eqb q a || s) t ∙ or_true _)) in
    ap (λ (t : ℕ). t ∷ map (slice_index (set x a v)) cs) here
    ∙ ap (λ (t : List ℕ). v ∷ t) (map_off x a v cs apart ∙ rest)

-- es are the entries that a turn hands out which kept these pages, on a store whose cells are c
pub record IsHandedOut (c pages olds : List ℕ) (es : List (ℕ × ℕ)) : Type 0 where
  pub cells : entry_cells es ≡ cells_of (length c) pages
  pub values : entry_values es ≡ map (slice_index (back c (zip (cells_of (length c) pages) olds)).cells)
      (cells_of (length c) pages)
  pub distinct : AllPairs (λ a b. a ≢ b) (entry_cells es)
  pub kept : length es ≡ length (cells_of (length c) pages)
  pub bound : length es ≤ length c

entries_handed_out : (c pages values : List ℕ) → HasValues (length c) pages values
    → IsHandedOut c pages values (zip (cells_of (length c) pages) values)
entries_handed_out c pages values h =
    let cs : List ℕ = cells_of (length c) pages in
    let distinct : IsDistinct eqb cs = distinct_cells (length c) pages h.distinct in
    let firsts : entry_cells (zip cs values) ≡ cs = firsts-zip cs values h.size in
    let long : length (zip cs values) ≡ length cs = length-entries cs values h.size ∙ h.size in
    record {
      cells = firsts;
      values = seconds-zip cs values h.size ∙ sym
          (back_values c cs values h.size distinct (λ q t. (cell_kept (length c) pages q t).1));
      distinct = subst (λ (t : List ℕ). AllPairs (λ a b. a ≢ b) t) (sym firsts)
          (AllPairs-from_IsDistinct Decides-eqb cs distinct);
      kept = long;
      bound = omega (arith, long, length-cells_of-le (length c) pages h.distinct);
    }

pub handed_out : (c pages packed : List ℕ) (n : ℕ) (ps qs : List ℕ) (es : List (ℕ × ℕ))
    → IsPaged (length c) pages packed → es ≡ zip (cells_of n ps) (values_of n ps qs) → n ≡ length c → ps ≡ pages
    → qs ≡ packed → IsHandedOut c pages (values_of (length c) pages packed) es
handed_out c pages packed n ps qs es h is en ep eq =
    let values : List ℕ = values_of (length c) pages packed in
    let whole : es ≡ zip (cells_of (length c) pages) values =
    is ∙ ap (λ (t : ℕ). zip (cells_of t ps) (values_of t ps qs)) en
    ∙ ap (λ (t : List ℕ). zip (cells_of (length c) t) (values_of (length c) t qs)) ep
    ∙ ap (λ (t : List ℕ). zip (cells_of (length c) pages) (values_of (length c) pages t)) eq in
    subst (λ (t : List (ℕ × ℕ)). IsHandedOut c pages values t) (sym whole)
    (entries_handed_out c pages values (has_values (length c) pages packed h))
