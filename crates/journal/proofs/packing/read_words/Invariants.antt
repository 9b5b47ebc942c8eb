use Rattle.std.proofs.Common.{◌≡◌, ℕ, ◌+◌, ◌-◌, ◌*◌, ◌<◌, ◌≤◌, slice_index}
use Rattle.journal.specs.Pages.{word_at}
use Rattle.journal.proofs.packing.read_words.Given as goal

abbrev pub invariant-offsets : goal.invariant-offsets
invariant-offsets g l =
    let cells = g.C.Cells.cells in
    record {
      upto : l.offset ≤ l.count;
      read : (k : ℕ) → k < l.offset → word_at l.row k ≡ slice_index (cells l.store) (l.page * 64 + k);
      within : (k : ℕ) → l.page * 64 ≤ k → k < l.page * 64 + l.offset
          → slice_index (cells l.store) k ≤ g.C.Cells.bounds l.store k;
    }

abbrev pub decreases-offsets : goal.decreases-offsets
decreases-offsets g l = l.count - l.offset
