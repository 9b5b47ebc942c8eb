use Rattle.std.proofs.Common.{◌≡◌}
use Rattle.checker_values.proofs.Keys.{fill}
use Rattle.checker_values.proofs.key.key_of.Given as goal

abbrev pub invariant-loop-i : goal.invariant-loop-i
invariant-loop-i l = l.key ≡ fill 32 l.i l.name
