use Rattle.zcore.specs.Execution.{load_byte}
use Rattle.machine_frames.proofs.Steps.{went_then, went_no_further, went_err}
use Rattle.machine_opcodes.proofs.memory.load_byte.Goals as goal

pub returns-in_err-byte : goal.returns-in_err-byte
unfolding load_byte
returns-in_err-byte c = went_err _ c.from_residual.ensures.1 (went_no_further _ (c.in_err-byte.ensures))

pub returns : goal.returns
unfolding load_byte
returns c = went_then _ (c.in_ok-byte.ensures) (c.give_result.ensures)
