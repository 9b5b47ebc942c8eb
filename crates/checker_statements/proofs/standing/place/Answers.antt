use Rattle.std.proofs.Common.{arith}
use Rattle.checker_statements.proofs.Chains.{place_next, place_end}
use Rattle.checker_statements.proofs.standing.place.Goals as goal

pub loop-i-preserved : goal.loop-i-preserved
loop-i-preserved c =
    place_next c.args.parents.now c.loop-i.objects c.loop-i.i c.parent_at.result _ _
    (omega (arith, c.loop-i-test.true, c.loop-i.auto.objects)) c.parent_at.ensures c.loop-i.invariant

pub returns : goal.returns
returns c =
    place_end c.args.parents.now c.loop-i.objects c.loop-i.i _
    (omega (arith, c.loop-i-test.false, c.loop-i.auto.objects)) c.loop-i.invariant
