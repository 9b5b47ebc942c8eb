use Rattle.std.proofs.Common.{◌≡◌, ◌+◌, ◌-◌, ◌≤◌, length, drop}
use Rattle.syntax_lexer.specs.Bytes.{run, passes}
use Rattle.syntax_lexer.proofs.bytes.run_length.Given as goal

abbrev pub invariant-loop-length : goal.invariant-loop-length
invariant-loop-length l =
    record {
      within : l.length ≤ length l.bytes;
      value : l.length + run (passes l.class) (drop l.length l.bytes) ≡ run (passes l.class) l.bytes;
    }

abbrev pub decreases-loop-length : goal.decreases-loop-length
decreases-loop-length l = length l.bytes - l.length
