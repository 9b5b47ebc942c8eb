use Rattle.std.proofs.Common.{◌≡◌, ◌≤◌, List, ℕ, ap, arith, length, subst, sym}
use Rattle.journal.specs.Pages.{cells_of, values_of}
use Rattle.journal.proofs.Packed.{length-values_of}
use Rattle.journal.proofs.Pages.{length-cells_of-le}
use Rattle.journal.proofs.Steps.{length-entries}
use Rattle.journal.proofs.record.Record.cells.Goals as goal

pub cell_count-requires-clause-within : goal.cell_count-requires-clause-within
cell_count-requires-clause-within c =
    let n : ℕ = c.self.inside.len in
    subst (λ (t : List ℕ). length (cells_of n t) ≤ n) (sym c.as_slice.ensures)
    (length-cells_of-le n c.self.inside.pages c.self.invariant.distinct)

pub returns : goal.returns
returns c =
    let n : ℕ = c.self.inside.len in
    let pages : List ℕ = c.self.inside.pages in
    let values : List ℕ = values_of n pages c.self.inside.packed.items in
    let long : length values ≡ length (cells_of n pages) = length-values_of n pages c.self.inside.packed.items
    c.self.invariant.size in
    let e = length-entries (cells_of n pages) values long in
    let view = ap (λ t. length t) c.self.view_is in
    let there = ap (λ (t : List ℕ). length (cells_of n t)) c.as_slice.ensures in
    omega (arith, e, long, view, there, c.cell_count.ensures)
