use Rattle.std.proofs.Common.{◌≡◌, ◌++◌, ◌+◌, ◌-◌}
use Rattle.derive_sums.specs.Sums.{sums_named}
use Rattle.derive_sums.proofs.counting.put_sums.Given as goal

abbrev pub invariant-loop-k : goal.invariant-loop-k
invariant-loop-k l = l.key.items ++ sums_named (l.k + 1) (l.count - l.k) ≡ l.initial.key.items ++ sums_named 1 l.count
