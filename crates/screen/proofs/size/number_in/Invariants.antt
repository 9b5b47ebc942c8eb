use Rattle.std.proofs.Common.{◌≡◌, ◌≤◌, drop}
use Rattle.screen.specs.Sizes.{number_after}
use Rattle.screen.proofs.size.number_in.Given as goal

abbrev pub invariant-loop-digit : goal.invariant-loop-digit
invariant-loop-digit l = record {
  small : l.number ≤ 1000;
  so_far : number_after l.number (drop l.digit-index l.digits) ≡ number_after 0 l.digits;
}
