use Rattle.machine_frames.proofs.Steps.{went_then, went_no_further, went_err}
use Rattle.zcore_versions.specs.SmallObjects.{tested_attributes}
use Rattle.machine_versions.proofs.attributes.tested_attributes.Goals as goal

pub returns-in_err-test_object : goal.returns-in_err-test_object
unfolding tested_attributes
returns-in_err-test_object c = went_err _ c.from_residual.ensures.1
    (went_no_further _ c.in_err-test_object.ensures.tested)

pub returns : goal.returns
unfolding tested_attributes
returns c = went_then _ c.in_ok-test_object.ensures.tested c.read_attributes.ensures
