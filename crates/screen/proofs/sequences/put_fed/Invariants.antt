use Rattle.std.proofs.Common.{◌≡◌, ◌++◌, ◌-◌}
use Rattle.screen.specs.Sequences.{fed}
use Rattle.screen.proofs.sequences.put_fed.Given as goal

abbrev pub invariant-loop-done : goal.invariant-loop-done
invariant-loop-done l = record {
  so_far : l.written.items ++ fed (l.rows - l.done) ≡ l.fn.written.items ++ fed l.rows;
}
