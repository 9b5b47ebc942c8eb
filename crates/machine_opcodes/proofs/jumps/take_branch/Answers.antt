use Rattle.machine_opcodes.proofs.Saying.{went_says}
use Rattle.machine_opcodes.proofs.Targets.{branch_returns, branch_goes, branch_stops}
use Rattle.machine_frames.proofs.Steps.{went_err}
use Rattle.machine_opcodes.proofs.jumps.take_branch.Goals as goal

pub returns-then-offset-lt2 : goal.returns-then-offset-lt2
returns-then-offset-lt2 c = branch_returns _ _ _ _ _ _ c.if-offset-lt2.true c.give_back.ensures

pub returns-in_err-test_target : goal.returns-in_err-test_target
returns-in_err-test_target c = went_err _ c.from_residual.ensures.1
    (branch_stops c.args.here c.args.after c.args.offset _ _ _ c.if-offset-lt2.false c.branch_target-target.ensures
    c.in_err-test_target.ensures)

pub returns : goal.returns
returns c = branch_goes c.args.here c.args.after c.args.offset _ _ _ c.if-offset-lt2.false
    c.branch_target-target.ensures c.in_ok-test_target.ensures (went_says _ _ c.requires.store.sound c.go.ensures)
