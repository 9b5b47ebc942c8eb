use Rattle.std.proofs.Common.{◌≡◌, ◌-◌, ◌<◌, ◌≤◌, ℕ, slice_index}
use Rattle.journal.specs.Pages.{word_at}
use Rattle.journal.proofs.packing.pack.Given as goal

abbrev pub invariant-offsets : goal.invariant-offsets
invariant-offsets l = record {
  upto : l.offset ≤ l.count;
  done : (k : ℕ) → k < l.offset → word_at l.packed k ≡ slice_index l.words k;
}

abbrev pub decreases-offsets : goal.decreases-offsets
decreases-offsets l = l.count - l.offset
