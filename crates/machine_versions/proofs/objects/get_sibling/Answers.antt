use Rattle.machine_frames.proofs.Steps.{went_then, went_no_further, went_err}
use Rattle.zcore_versions.specs.SmallObjects.{get_sibling}
use Rattle.machine_versions.proofs.objects.get_sibling.Goals as goal

pub returns-in_err-test_object : goal.returns-in_err-test_object
unfolding get_sibling
returns-in_err-test_object c = went_err _ c.from_residual.ensures.1
    (went_no_further _ c.in_err-test_object.ensures.tested)

pub returns-in_err-sibling : goal.returns-in_err-sibling
unfolding get_sibling
returns-in_err-sibling c = went_err _ c.from_residual-in_err-sibling.ensures.1
    (went_then _ c.in_ok-test_object.ensures.tested (went_no_further _ c.in_err-sibling.ensures))

pub returns : goal.returns
unfolding get_sibling
returns c = went_then _ c.in_ok-test_object.ensures.tested
    (went_then _ c.in_ok-sibling.ensures c.give_object.ensures)
