use Rattle.std.proofs.Common.{◌≡◌, ℕ, ◌+◌, ◌-◌, ◌*◌, ◌<◌, ◌≤◌, map, take, slice_index}
use Rattle.std.specs.List.{range_with_len}
use Rattle.journal.proofs.packing.read_bytes.Given as goal

abbrev pub invariant-offsets : goal.invariant-offsets
invariant-offsets g l =
    let cells = g.C.Cells.cells in
    record {
      upto : l.offset ≤ l.count;
      read : take l.offset l.row ≡ map (slice_index (cells l.store)) (range_with_len (l.page * 64) l.offset);
      within : (k : ℕ) → l.page * 64 ≤ k → k < l.page * 64 + l.offset
          → slice_index (cells l.store) k ≤ g.C.Cells.bounds l.store k;
    }

abbrev pub decreases-offsets : goal.decreases-offsets
decreases-offsets g l = l.count - l.offset
