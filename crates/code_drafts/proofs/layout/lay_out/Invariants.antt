use Rattle.code_drafts.proofs.Offsets.{Placed}
use Rattle.code_drafts.proofs.layout.lay_out.Given as goal

abbrev pub invariant-loop-done : goal.invariant-loop-done
invariant-loop-done l = Placed l.parts l.left.items l.end l.done
