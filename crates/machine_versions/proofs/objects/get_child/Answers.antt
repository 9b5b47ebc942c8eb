use Rattle.machine_frames.proofs.Steps.{went_then, went_no_further, went_err}
use Rattle.zcore_versions.specs.SmallObjects.{get_child}
use Rattle.machine_versions.proofs.objects.get_child.Goals as goal

pub returns-in_err-test_object : goal.returns-in_err-test_object
unfolding get_child
returns-in_err-test_object c = went_err _ c.from_residual.ensures.1
    (went_no_further _ c.in_err-test_object.ensures.tested)

pub returns-in_err-child : goal.returns-in_err-child
unfolding get_child
returns-in_err-child c = went_err _ c.from_residual-in_err-child.ensures.1
    (went_then _ c.in_ok-test_object.ensures.tested (went_no_further _ c.in_err-child.ensures))

pub returns : goal.returns
unfolding get_child
returns c = went_then _ c.in_ok-test_object.ensures.tested
    (went_then _ c.in_ok-child.ensures c.give_object.ensures)
