use Rattle.machine_frames.proofs.Steps.{went_then, went_no_further, went_err}
use Rattle.zcore_versions.specs.SmallObjects.{get_parent}
use Rattle.machine_versions.proofs.objects.get_parent.Goals as goal

pub returns-in_err-test_object : goal.returns-in_err-test_object
unfolding get_parent
returns-in_err-test_object c = went_err _ c.from_residual.ensures.1
    (went_no_further _ c.in_err-test_object.ensures.tested)

pub returns-in_err-parent : goal.returns-in_err-parent
unfolding get_parent
returns-in_err-parent c = went_err _ c.from_residual-in_err-parent.ensures.1
    (went_then _ c.in_ok-test_object.ensures.tested (went_no_further _ c.in_err-parent.ensures))

pub returns : goal.returns
unfolding get_parent
returns c = went_then _ c.in_ok-test_object.ensures.tested
    (went_then _ c.in_ok-parent.ensures c.give_result.ensures)
