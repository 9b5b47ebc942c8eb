use Rattle.std.proofs.Common.{◌≡◌, ◌≤◌, ◌-◌, ◌*◌, ◌/◌, ◌%◌, ◌++◌, drop, length}
use Rattle.iff_files.specs.Differences.{packed}
use Rattle.iff_files.proofs.differences.pack.Given as goal

abbrev pub invariant-loop-at : goal.invariant-loop-at
invariant-loop-at l = record {
  within : l.at ≤ length l.base / 8 * 8;
  blocks : l.at % 8 ≡ 0;
  order : l.done ≤ l.at;
  whole : l.out.items ++ packed (l.at - l.done) (drop l.at l.base) (drop l.at l.memory)
      ≡ l.initial.out.items ++ packed 0 l.base l.memory;
}

abbrev pub decreases-loop-at : goal.decreases-loop-at
decreases-loop-at l = length l.base / 8 * 8 - l.at
