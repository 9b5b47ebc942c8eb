use Rattle.std.proofs.Common.{◌≡◌, ◌++◌, replicate}
use Rattle.derive_joined.proofs.joiner.put_line_ends.Given as goal

abbrev pub invariant-loop : goal.invariant-loop
invariant-loop l = l.text.items ≡ l.fn.text.items ++ replicate l.counter 10
