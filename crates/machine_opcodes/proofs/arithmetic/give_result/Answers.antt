use Rattle.std.proofs.Common.{refl}
use Rattle.zcore.specs.Execution.{give_result}
use Rattle.machine_frames.proofs.Steps.{went_then, went_no_further, went_err, went_sound, went_still}
use Rattle.machine_opcodes.proofs.arithmetic.give_result.Goals as goal

pub returns-in_err-test_result : goal.returns-in_err-test_result
unfolding give_result
returns-in_err-test_result c = went_err _ c.from_residual.ensures.1 (went_no_further _ (c.in_err-test_result.ensures))

pub returns-in_err-store_result : goal.returns-in_err-store_result
unfolding give_result
returns-in_err-store_result c = went_err _ c.from_residual-in_err-store_result.ensures.1
    (went_then _ (c.in_ok-test_result.ensures) (went_no_further _ (c.in_err-store_result.ensures)))

pub returns : goal.returns
unfolding give_result
returns c = went_then _ (c.in_ok-test_result.ensures)
    (went_then _ (c.in_ok-store_result.ensures)
    (went_still _ _ (went_sound c.in_ok-store_result.ensures) (λ t. refl)))
