use Rattle.machine_opcodes.proofs.Targets.{tests_return, tests_return_stops, tests_target}
use Rattle.machine_frames.proofs.Steps.{went_err}
use Rattle.machine_opcodes.proofs.jumps.test_taken.Goals as goal

pub returns-in_err-test_return : goal.returns-in_err-test_return
returns-in_err-test_return c = went_err _ c.from_residual.ensures.1
    (tests_return_stops c.args.after c.args.offset _ _ c.if-offset-lt2.true c.in_err-test_return.ensures.went)

pub returns-then-offset-lt2 : goal.returns-then-offset-lt2
returns-then-offset-lt2 c = tests_return c.args.after c.args.offset _ _ c.if-offset-lt2.true c.requires.sound
    c.in_ok-test_return.ensures.went

pub returns : goal.returns
returns c = tests_target c.args.after c.args.offset _ _ _ c.if-offset-lt2.false c.branch_target.ensures
    c.test_target.ensures
