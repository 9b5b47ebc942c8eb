use Rattle.zcore_standard.specs.Reading.{wait_for_line}
use Rattle.machine_frames.proofs.Steps.{went_then, went_no_further, went_err}
use Rattle.machine_standard_words.proofs.waiting.wait_for_line.Goals as goal

pub returns-in_err-test_room : goal.returns-in_err-test_room
unfolding wait_for_line
returns-in_err-test_room c = went_err _ c.from_residual.ensures.1 (went_no_further _ c.in_err-test_room.ensures)

pub returns-in_err-test_slots_or_none : goal.returns-in_err-test_slots_or_none
unfolding wait_for_line
returns-in_err-test_slots_or_none c =
    went_err _ c.from_residual-in_err-test_slots_or_none.ensures.1
    (went_then _ c.in_ok-test_room.ensures (went_no_further _ c.in_err-test_slots_or_none.ensures))

pub returns-in_err-test_result : goal.returns-in_err-test_result
unfolding wait_for_line
returns-in_err-test_result c =
    went_err _ c.from_residual-in_err-test_result.ensures.1
    (went_then _ c.in_ok-test_room.ensures
    (went_then _ c.in_ok-test_slots_or_none.ensures (went_no_further _ c.in_err-test_result.ensures)))

pub returns : goal.returns
unfolding wait_for_line
returns c =
    went_then _ c.in_ok-test_room.ensures
    (went_then _ c.in_ok-test_slots_or_none.ensures (went_then _ c.in_ok-test_result.ensures c.wait.ensures))
