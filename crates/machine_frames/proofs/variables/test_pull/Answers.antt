use Rattle.std.proofs.Common.{arith}
use Rattle.machine_frames.proofs.InPlace.{pull_result, pull_none, pull_some}
use Rattle.machine_frames.proofs.variables.test_pull.Goals as goal

pub returns-then-variable-ne0 : goal.returns-then-variable-ne0
returns-then-variable-ne0 c = pull_result _ _ c.args.variable c.requires c.if-variable-ne0.true c.test_result.ensures

pub returns-then-height-bottom : goal.returns-then-height-bottom
returns-then-height-bottom c = pull_none _ c.args.variable c.requires c.if-variable-ne0.false
    (omega (arith, c.height.ensures.same, c.bottom.ensures.same))

pub returns : goal.returns
returns c = pull_some _ c.args.variable c.requires c.if-variable-ne0.false
    (omega (arith, c.height.ensures.same, c.bottom.ensures.same))
