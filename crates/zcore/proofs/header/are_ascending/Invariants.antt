use Rattle.zcore.specs.Header.{AreAscending}
use Rattle.zcore.proofs.header.are_ascending.Given as goal

-- the entries before this one are in order
abbrev pub invariant-loop-entry : goal.invariant-loop-entry
invariant-loop-entry l = AreAscending l.story l.first l.bytes l.entry
