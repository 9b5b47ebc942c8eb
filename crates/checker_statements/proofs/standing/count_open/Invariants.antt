use Rattle.std.proofs.Common.{◌≡◌, ◌+◌, length, drop}
use Rattle.checker_statements.specs.Objects.{open_to}
use Rattle.checker_statements.proofs.standing.count_open.Given as goal

abbrev pub invariant-loop-i : goal.invariant-loop-i
invariant-loop-i l = l.i + length (open_to l.arrows (drop l.i l.chain)) ≡ length (open_to l.arrows l.chain)
