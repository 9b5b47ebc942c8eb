use Rattle.zcore_versions.specs.Reading.{wait_for_line}
use Rattle.machine_frames.proofs.Steps.{went_then, went_no_further, went_err}
use Rattle.machine_versions_words.proofs.waiting.wait_for_line.Goals as goal

pub returns-in_err-test_room : goal.returns-in_err-test_room
unfolding wait_for_line
returns-in_err-test_room c =
    went_err _ c.from_residual.ensures.1 (went_no_further _ c.in_err-test_room.ensures)

pub returns-in_err-test_slots : goal.returns-in_err-test_slots
unfolding wait_for_line
returns-in_err-test_slots c =
    went_err _ c.from_residual-in_err-test_slots.ensures.1
    (went_then _ c.in_ok-test_room.ensures (went_no_further _ c.in_err-test_slots.ensures))

pub returns : goal.returns
unfolding wait_for_line
returns c =
    went_then _ c.in_ok-test_room.ensures (went_then _ c.in_ok-test_slots.ensures c.wait.ensures)
