use Rattle.std.proofs.Common.{Ok, refl}
use Rattle.zcore.specs.Parts.{call}
use Rattle.machine_frames.proofs.Steps.{went_then, went_no_further, went_err, went_sound, went_still}
use Rattle.machine_opcodes.proofs.Saying.{went_says}
use Rattle.machine_opcodes.proofs.calls.call.Goals as goal

pub returns-in_err-test_routine : goal.returns-in_err-test_routine
unfolding call
returns-in_err-test_routine c = went_err _ c.from_residual.ensures.1
    (went_no_further _ c.in_err-test_routine.ensures.went)

pub returns-in_err-test_calls : goal.returns-in_err-test_calls
unfolding call
returns-in_err-test_calls c = went_err _ c.from_residual-in_err-test_calls.ensures.1
    (went_then _ c.in_ok-test_routine.ensures.went (went_no_further _ c.in_err-test_calls.ensures.went))

pub returns-in_err-fuel : goal.returns-in_err-fuel
unfolding call
returns-in_err-fuel c =
    went_err _ c.from_residual-in_err-fuel.ensures.1
    (went_then _ c.in_ok-test_routine.ensures.went
    (went_then _ c.in_ok-test_calls.ensures.went
    (went_no_further _ (went_says _ _ c.requires.sound c.in_err-fuel.ensures))))

pub returns-in_err-enter : goal.returns-in_err-enter
unfolding call
returns-in_err-enter c =
    went_err _ c.from_residual-in_err-enter.ensures.1
    (went_then _ c.in_ok-test_routine.ensures.went
    (went_then _ c.in_ok-test_calls.ensures.went
    (went_then _ (went_says (Ok c.in_ok-fuel.fuel) _ c.requires.sound c.in_ok-fuel.ensures)
    (went_no_further _ c.in_err-enter.ensures))))

pub returns : goal.returns
unfolding call
returns c =
    went_then _ c.in_ok-test_routine.ensures.went
    (went_then _ c.in_ok-test_calls.ensures.went
    (went_then _ (went_says (Ok c.in_ok-fuel.fuel) _ c.requires.sound c.in_ok-fuel.ensures)
    (went_then _ c.in_ok-enter.ensures (went_still _ _ (went_sound c.in_ok-enter.ensures) (λ t. refl)))))
