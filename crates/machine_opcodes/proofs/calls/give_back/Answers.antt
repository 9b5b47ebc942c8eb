use Rattle.std.proofs.Common.{refl}
use Rattle.zcore.specs.Parts.{give_back}
use Rattle.machine_frames.proofs.Steps.{went_then, went_no_further, went_err, went_sound, went_store, went_still}
use Rattle.machine_opcodes.proofs.calls.give_back.Goals as goal

pub leave-requires-clause-sound : goal.leave-requires-clause-sound
leave-requires-clause-sound c = c.requires.sound

pub store_result-requires : goal.store_result-requires
store_result-requires c = went_store c.requires c.in_ok-leave.ensures

pub returns-in_err-program_counter : goal.returns-in_err-program_counter
unfolding give_back
returns-in_err-program_counter c = went_err _ c.from_residual.ensures.1
    (went_no_further _ c.in_err-program_counter.ensures.went)

pub returns-in_err-leave : goal.returns-in_err-leave
unfolding give_back
returns-in_err-leave c = went_err _ c.from_residual-in_err-leave.ensures.1
    (went_then _ c.in_ok-program_counter.ensures.went (went_no_further _ c.in_err-leave.ensures))

pub returns-in_err-store_result : goal.returns-in_err-store_result
unfolding give_back
returns-in_err-store_result c =
    went_err _ c.from_residual-in_err-store_result.ensures.1
    (went_then _ c.in_ok-program_counter.ensures.went
    (went_then _ c.in_ok-leave.ensures (went_no_further _ c.in_err-store_result.ensures)))

pub returns : goal.returns
unfolding give_back
returns c =
    went_then _ c.in_ok-program_counter.ensures.went
    (went_then _ c.in_ok-leave.ensures
    (went_then _ c.in_ok-store_result.ensures
    (went_still _ _ (went_sound c.in_ok-store_result.ensures) (λ t. refl))))
