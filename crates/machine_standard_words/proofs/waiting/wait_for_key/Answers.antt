use Rattle.zcore_standard.specs.Reading.{wait_for_key}
use Rattle.machine_frames.proofs.Steps.{went_then, went_no_further, went_err}
use Rattle.machine_standard_words.proofs.waiting.wait_for_key.Goals as goal

pub returns-in_err-test_result : goal.returns-in_err-test_result
unfolding wait_for_key
returns-in_err-test_result c = went_err _ c.from_residual.ensures.1 (went_no_further _ c.in_err-test_result.ensures)

pub returns : goal.returns
unfolding wait_for_key
returns c = went_then _ c.in_ok-test_result.ensures c.wait.ensures
