use Rattle.zcore.specs.Execution.{read}
use Rattle.machine_frames.proofs.Steps.{went_then, went_no_further, went_err}
use Rattle.machine_opcodes.proofs.lines.read.Goals as goal

pub returns-in_err-test_text_buffer : goal.returns-in_err-test_text_buffer
unfolding read
returns-in_err-test_text_buffer c =
    went_err _ c.from_residual.ensures.1 (went_no_further _ c.in_err-test_text_buffer.ensures)

pub returns-in_err-test_parse_buffer : goal.returns-in_err-test_parse_buffer
unfolding read
returns-in_err-test_parse_buffer c =
    went_err _ c.from_residual-in_err-test_parse_buffer.ensures.1
    (went_then _ c.in_ok-test_text_buffer.ensures (went_no_further _ c.in_err-test_parse_buffer.ensures))

pub returns-in_err-test_result : goal.returns-in_err-test_result
unfolding read
returns-in_err-test_result c =
    went_err _ c.from_residual-in_err-test_result.ensures.1
    (went_then _ c.in_ok-test_text_buffer.ensures
    (went_then _ c.in_ok-test_parse_buffer.ensures (went_no_further _ c.in_err-test_result.ensures)))

pub returns : goal.returns
unfolding read
returns c =
    went_then _ c.in_ok-test_text_buffer.ensures
    (went_then _ c.in_ok-test_parse_buffer.ensures (went_then _ c.in_ok-test_result.ensures c.wait.ensures))
