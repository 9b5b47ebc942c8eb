use Rattle.terminal.proofs.Passed.{passed_more, passed_same}
use Rattle.terminal.proofs.passing.pass_on.Goals as goal
use Rattle.terminal.proofs.passing.pass_on.Goals.{in-Ok, in-Err+else-ne}

pub loop-preserved : goal.loop-preserved
loop-preserved g c = elim c.match-write.branch [
  | in-Ok w ↦ rw w.bytes-is (passed_more _ _ _ _ _ _ _ _ c.loop.invariant c.as_slice.ensures.value
      w.in-Ok.ensures.bytes w.remove_front.ensures)
  | in-Err+else-ne w ↦ rw w.bytes-is (passed_same _ _ _ _ _ c.loop.invariant w.in-Err.ensures.bytes)
]
