use Rattle.std.proofs.Common.{◌≤◌}
use Rattle.terminal.proofs.breaking.word_width.Given as goal

abbrev pub invariant-loop-at : goal.invariant-loop-at
invariant-loop-at l = record {
  begun : l.begun ≤ l.end;
}
