use Rattle.std.proofs.Common.{refl}
use Rattle.zcore_standard.specs.Flow.{throw}
use Rattle.machine_frames.proofs.Steps.{went_then, went_no_further, went_err, went_sound, went_store, went_still}
use Rattle.machine_standard_opcodes.proofs.flow.throw.Goals as goal

pub returns-in_err-test_frame : goal.returns-in_err-test_frame
unfolding throw
returns-in_err-test_frame c = went_err _ c.from_residual.ensures.1 (went_no_further _ c.in_err-test_frame.ensures.went)

pub returns-in_err-program_counter : goal.returns-in_err-program_counter
unfolding throw
returns-in_err-program_counter c = went_err _ c.from_residual-in_err-program_counter.ensures.1
    (went_then _ c.in_ok-test_frame.ensures.went (went_no_further _ c.in_err-program_counter.ensures))

pub returns-in_err-leave_frame : goal.returns-in_err-leave_frame
unfolding throw
returns-in_err-leave_frame c = went_err _ c.from_residual-in_err-leave_frame.ensures.1
    (went_then _ c.in_ok-test_frame.ensures.went
    (went_then _ c.in_ok-program_counter.ensures (went_no_further _ c.in_err-leave_frame.ensures)))

pub store_result-requires : goal.store_result-requires
store_result-requires c = went_store c.requires c.in_ok-leave_frame.ensures

pub returns-in_err-store_result : goal.returns-in_err-store_result
unfolding throw
returns-in_err-store_result c = went_err _ c.from_residual-in_err-store_result.ensures.1
    (went_then _ c.in_ok-test_frame.ensures.went
    (went_then _ c.in_ok-program_counter.ensures
    (went_then _ c.in_ok-leave_frame.ensures (went_no_further _ c.in_err-store_result.ensures))))

pub returns : goal.returns
unfolding throw
returns c = went_then _ c.in_ok-test_frame.ensures.went
    (went_then _ c.in_ok-program_counter.ensures
    (went_then _ c.in_ok-leave_frame.ensures
    (went_then _ c.in_ok-store_result.ensures
    (went_still _ _ (went_sound c.in_ok-store_result.ensures) (λ t. refl)))))
