use Rattle.std.proofs.Common.{length}
use Rattle.session_lines.proofs.Telling.{WrittenSoFar}
use Rattle.session_lines.proofs.writing.put.Given as goal

abbrev pub invariant-loop-rest : goal.invariant-loop-rest
invariant-loop-rest g l = WrittenSoFar (g.W.Write.contents l.fn.writer) (g.W.Write.contents l.writer) l.fn.text l.rest

abbrev pub decreases-loop-rest : goal.decreases-loop-rest
decreases-loop-rest g l = length l.rest
