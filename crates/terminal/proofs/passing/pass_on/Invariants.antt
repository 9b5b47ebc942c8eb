use Rattle.terminal.specs.Passed.{PassedOn}
use Rattle.terminal.proofs.passing.pass_on.Given as goal

abbrev pub invariant-loop : goal.invariant-loop
invariant-loop g l = PassedOn (g.W.Write.contents l.fn.writer) (g.W.Write.contents l.writer) l.fn.bytes.items l.bytes.items
