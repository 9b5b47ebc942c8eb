use Rattle.machine_frames.proofs.Steps.{went_err}
use Rattle.machine_opcodes.proofs.Saying.{went_says}
use Rattle.machine_opcodes.proofs.Operating.{jump_went, jump_stops}
use Rattle.machine_opcodes.proofs.jumps.jump.Goals as goal

pub returns-in_err-test_target : goal.returns-in_err-test_target
returns-in_err-test_target c = went_err _ c.from_residual.ensures.1
    (jump_stops _ _ _ _ _ _ c.jump_target-target.ensures c.in_err-test_target.ensures)

pub returns : goal.returns
returns c = jump_went _ _ _ _ _ _ c.jump_target-target.ensures c.in_ok-test_target.ensures
    (went_says _ _ c.requires.sound c.go.ensures)
