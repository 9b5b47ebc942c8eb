use Rattle.zcore.specs.Execution.{return_popped}
use Rattle.machine_frames.proofs.Steps.{went_then, went_no_further, went_err}
use Rattle.machine_opcodes.proofs.calls.return_popped.Goals as goal

pub returns-in_err-word : goal.returns-in_err-word
unfolding return_popped
returns-in_err-word c = went_err _ c.from_residual.ensures.1 (went_no_further _ (c.in_err-word.ensures))

pub returns : goal.returns
unfolding return_popped
returns c = went_then _ (c.in_ok-word.ensures) (c.give_back.ensures)
