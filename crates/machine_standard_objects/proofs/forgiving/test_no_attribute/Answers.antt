use Rattle.machine_frames.proofs.Steps.{went_then, went_no_further, went_err}
use Rattle.zcore_standard.specs.Forgiving.{test_no_attribute}
use Rattle.machine_standard_objects.proofs.forgiving.test_no_attribute.Goals as goal

pub returns-in_err-test_object : goal.returns-in_err-test_object
unfolding test_no_attribute
returns-in_err-test_object c = went_err _ c.from_residual.ensures.1 (went_no_further _ c.in_err-test_object.ensures.tested)

pub returns : goal.returns
unfolding test_no_attribute
returns c = went_then _ c.in_ok-test_object.ensures.tested c.branch_on.ensures
