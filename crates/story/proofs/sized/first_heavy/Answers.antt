use Rattle.std.proofs.Common.{sym, ◌∙◌}
use Rattle.story.proofs.SizeTests.{heavy_here, heavy_later}
use Rattle.story.proofs.sized.first_heavy.Goals as goal

pub returns-then-routine-gt-GREATEST_ROUTINE_WEIGHT : goal.returns-then-routine-gt-GREATEST_ROUTINE_WEIGHT
returns-then-routine-gt-GREATEST_ROUTINE_WEIGHT c =
    sym (heavy_here c.args.checked.now.routines c.loop-number.number c.routine-routine.result.now
    c.routine-routine.ensures.given c.if-routine-gt-GREATEST_ROUTINE_WEIGHT.true) ∙ c.loop-number.invariant

pub loop-number-preserved : goal.loop-number-preserved
loop-number-preserved c =
    heavy_later c.args.checked.now.routines c.loop-number.number c.routine-routine.result.now
    c.routine-routine.ensures.given c.if-routine-gt-GREATEST_ROUTINE_WEIGHT.false ∙ c.loop-number.invariant
