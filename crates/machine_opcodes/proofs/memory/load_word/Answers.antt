use Rattle.zcore.specs.Execution.{load_word}
use Rattle.machine_frames.proofs.Steps.{went_then, went_no_further, went_err}
use Rattle.machine_opcodes.proofs.memory.load_word.Goals as goal

pub returns-in_err-word : goal.returns-in_err-word
unfolding load_word
returns-in_err-word c = went_err _ c.from_residual.ensures.1
    (went_no_further _ (rw c.word_address.ensures.same at c.in_err-word.ensures))

pub returns : goal.returns
unfolding load_word
returns c = went_then _ (rw c.word_address.ensures.same at c.in_ok-word.ensures) (c.give_result.ensures)
