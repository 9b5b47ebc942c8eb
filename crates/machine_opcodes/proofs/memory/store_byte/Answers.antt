use Rattle.std.proofs.Common.{refl}
use Rattle.zcore.specs.Execution.{store_byte}
use Rattle.machine_frames.proofs.Steps.{went_then, went_no_further, went_err, went_sound, went_still}
use Rattle.machine_opcodes.proofs.memory.store_byte.Goals as goal

pub returns-in_err-write_byte : goal.returns-in_err-write_byte
unfolding store_byte
returns-in_err-write_byte c = went_err _ c.from_residual.ensures.1 (went_no_further _ (c.in_err-write_byte.ensures))

pub returns : goal.returns
unfolding store_byte
returns c = went_then _ (c.in_ok-write_byte.ensures)
    (went_still _ _ (went_sound c.in_ok-write_byte.ensures) (λ t. refl))
