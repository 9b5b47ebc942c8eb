use Rattle.std.proofs.Common.{◌≤◌, length}
use Rattle.play_terminal.proofs.shown.show.Given as goal

abbrev pub invariant-loop-at : goal.invariant-loop-at
invariant-loop-at g l = record {
  begun : l.begun ≤ length l.text;
}
