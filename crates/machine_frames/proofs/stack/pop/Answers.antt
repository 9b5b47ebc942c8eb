use Rattle.std.proofs.Common.{arith}
use Rattle.machine_frames.proofs.Pushing.{pop_went, pop_none_went}
use Rattle.machine_frames.proofs.stack.pop.Goals as goal

pub returns-in_default : goal.returns-in_default
returns-in_default c = pop_none_went _ c.requires c.in_default.ensures.none

pub returns : goal.returns
returns c =
    pop_went _ _ c.cell-word.result c.in-Some.i _ c.requires c.in-Some.ensures.some.0 c.in-Some.ensures.some.1
    c.cell-word.ensures (omega (arith, c.in-Some.ensures.some.1))
    c.in_ok-put_long.ensures.cells c.put_long.ensures.fixed c.in_ok-put_long.ensures.beginning
