use Rattle.std.proofs.Common.{◌≡◌, ◌++◌, drop}
use Rattle.screen.specs.Upper.{fitting}
use Rattle.screen.proofs.upper.put_fitting.Given as goal

abbrev pub invariant-loop-byte : goal.invariant-loop-byte
invariant-loop-byte l = record {
  so_far : l.written.items ++ fitting l.room (drop l.byte-index l.line) ≡ l.fn.written.items ++ fitting l.columns l.line;
}
