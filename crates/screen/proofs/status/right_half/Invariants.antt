use Rattle.std.proofs.Common.{◌≡◌, ◌≤◌, [], drop, length}
use Rattle.screen.specs.Status.{right_after}
use Rattle.screen.proofs.status.right_half.Given as goal

abbrev pub invariant-loop-place : goal.invariant-loop-place
invariant-loop-place l = record {
  within : length l.found ≤ length l.line;
  so_far : right_after l.found (drop l.place l.line) ≡ right_after [] l.line;
}
