use Rattle.std.proofs.Common.{◌≡◌, ◌++◌, List, ℕ}
use Rattle.iff_files.specs.Differences.{full_runs}
use Rattle.iff_files.proofs.differences.put_full_runs.Given as goal

abbrev pub invariant-loop-run : goal.invariant-loop-run
invariant-loop-run l = (rest : List ℕ) → l.out.items ++ rest ≡ l.initial.out.items ++ full_runs l._run rest
