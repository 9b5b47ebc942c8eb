use Rattle.std.proofs.Common.{length}
use Rattle.machine_standard_saves.proofs.CallsBack.{PutsBack}
use Rattle.machine_standard_saves.proofs.restoring.put_back_calls.Given as goal

-- some calls are put back, and the others come
abbrev pub invariant-loop-head : goal.invariant-loop-head
invariant-loop-head l = PutsBack l.fn.store l.store l.size l.most l.left l.bytes l.rest

abbrev pub decreases-loop-head : goal.decreases-loop-head
decreases-loop-head l = length l.rest
