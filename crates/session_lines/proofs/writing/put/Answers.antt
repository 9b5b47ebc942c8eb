use Rattle.session_lines.proofs.Telling.{written_on}
use Rattle.session_lines.proofs.writing.put.Goals as goal

pub loop-rest-preserved : goal.loop-rest-preserved
loop-rest-preserved g c = written_on c.in-Ok.n c.loop-rest.invariant c.in-Ok.ensures.bytes
