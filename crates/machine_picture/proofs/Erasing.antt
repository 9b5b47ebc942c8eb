-- Cells that are erased one after another.
use Rattle.std.proofs.Common.{◌≡◌, ◌≤◌, ◌<◌, ◌+◌, ◌-◌, ◌*◌, ℕ, suc, List, [], ◌∷◌, ◌++◌, length, take, drop, min, ap, sym, ◌∙◌, arith}
use Rattle.std.proofs.Common.{add-one, append-nil, append_assoc, drop-cons, inl, inr, slice_index}
use Rattle.std.specs.Prelude.{replicate, slice_set}
use Rattle.std.proofs.lemmas.Bool.{cases_lt}
use Rattle.std.proofs.lemmas.List.{drop_all, length-append, length-replicate, length-take-le, replicate-append-replicate}
use Rattle.std.proofs.lemmas.List.{take-append-drop, take_all}
use Rattle.std.proofs.Math.Seq.{set-append_seam}
use Rattle.machine_picture.specs.Picture.{Picture, cell_at, erased, with_line_erased}

-- none of them
pub erased_none : (from to : ℕ) (cells : List ℕ) → min to (length cells) ≤ from → cells ≡ erased from to cells
erased_none from to cells le =
    let none : min to (length cells) - from ≡ 0 = omega (arith, le) in
    let few : erased from to cells ≡ take from cells ++ drop (from + (to - from)) cells =
    ap (λ n. take from cells ++ (replicate n 32 ++ drop (from + (to - from)) cells)) none in
    sym (few ∙ elim (cases_lt from to) [
      | inl lt ↦
          let long : length cells ≤ from = omega (arith, le, lt) in
          ap (λ l. take from cells ++ l) (drop_all (from + (to - from)) cells (omega (arith, long)))
          ∙ append-nil (take from cells) ∙ take_all from cells long
      | inr ge ↦
          let same : from + (to - from) ≡ from = omega (arith, ge) in
          ap (λ n. take from cells ++ drop n cells) same ∙ take-append-drop from cells
    ])

-- as far as a cell of them
so_far : (from i : ℕ) (cells : List ℕ) → from ≤ i → i ≤ length cells
    → erased from i cells ≡ (take from cells ++ replicate (i - from) 32) ++ drop i cells
so_far from i cells le within =
    let n : min i (length cells) - from ≡ i - from = omega (arith, within) in
    let k : from + (i - from) ≡ i = omega (arith, le) in
    ap (λ m. take from cells ++ (replicate m 32 ++ drop (from + (i - from)) cells)) n
    ∙ ap (λ m. take from cells ++ (replicate (i - from) 32 ++ drop m cells)) k
    ∙ sym (append_assoc (take from cells) (replicate (i - from) 32) (drop i cells))

pub erased_more : (from i : ℕ) (cells now : List ℕ) → from ≤ i → i < length cells → now ≡ erased from i cells
    → slice_set now i 32 ≡ erased from (i + 1) cells
erased_more from i cells now le lt is =
    let front = take from cells ++ replicate (i - from) 32 in
    let x = slice_index cells i in
    let rest = drop (suc i) cells in
    let long : length front ≡ i = length-append (take from cells) (replicate (i - from) 32)
    ∙ omega (arith, length-take-le from cells (omega (arith, le, lt)), length-replicate {A = ℕ} (i - from) 32, le) in
    let seam : now ≡ front ++ x ∷ rest = is ∙ so_far from i cells le (omega (arith, lt))
    ∙ ap (λ l. front ++ l) (drop-cons cells i 0 lt) in
    let wrote : slice_set now i 32 ≡ front ++ 32 ∷ rest = ap (λ l. slice_set l i 32) seam
    ∙ ap (λ k. slice_set (front ++ x ∷ rest) k 32) (sym long) ∙ set-append_seam front x rest 32 in
    let n : i + 1 - from ≡ i - from + 1 = omega (arith, le) in
    let grown : take from cells ++ replicate (i + 1 - from) 32 ≡ front ++ 32 ∷ [] =
    ap (λ m. take from cells ++ replicate m 32) n
    ∙ ap (λ l. take from cells ++ l) (sym (replicate-append-replicate {A = ℕ} (i - from) 1 32))
    ∙ sym (append_assoc (take from cells) (replicate (i - from) 32) (32 ∷ [])) in
    wrote ∙ sym (so_far from (i + 1) cells (omega (arith, le)) (omega (arith, lt))
    ∙ ap (λ l. l ++ drop (i + 1) cells) grown ∙ append_assoc front (32 ∷ []) (drop (i + 1) cells)
    ∙ ap (λ k. front ++ 32 ∷ drop k cells) (add-one i))

-- cells after the last one are blank already
erased_min : (from to m : ℕ) (cells : List ℕ) → m ≡ min to (length cells) → erased from m cells ≡ erased from to cells
erased_min from to m cells e = elim (cases_lt (length cells) to) [
  | inl lt ↦
      let n : min m (length cells) - from ≡ min to (length cells) - from = omega (arith, e, lt) in
      ap (λ k. take from cells ++ (replicate k 32 ++ drop (from + (m - from)) cells)) n
      ∙ ap (λ l. take from cells ++ (replicate (min to (length cells) - from) 32 ++ l))
      (drop_all (from + (m - from)) cells (omega (arith, e, lt))
      ∙ sym (drop_all (from + (to - from)) cells (omega (arith, lt))))
  | inr ge ↦
      let same : m ≡ to = omega (arith, e, ge) in
      ap (λ k. erased from k cells) same
]

-- The row of the cursor

abbrev with_cells : Picture → List ℕ → Picture
with_cells p cells = record p { cells = cells }

pub row_kept : (p : Picture) → min (p.row * 255) (length p.cells) ≤ cell_at p → p ≡ with_line_erased p
row_kept p le = ap (with_cells p) (erased_none (cell_at p) (p.row * 255) p.cells le)

pub row_gone : (p : Picture) (from to : ℕ) (now : List ℕ) → from ≡ cell_at p → to ≡ min (p.row * 255) (length p.cells)
    → now ≡ erased from to p.cells → record p { cells = now } ≡ with_line_erased p
row_gone p from to now at e is =
    ap (with_cells p) (is ∙ ap (λ k. erased k to p.cells) at ∙ erased_min (cell_at p) (p.row * 255) to p.cells e)
