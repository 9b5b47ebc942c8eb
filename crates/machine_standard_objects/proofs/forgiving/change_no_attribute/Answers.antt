use Rattle.std.proofs.Common.{refl}
use Rattle.machine_frames.proofs.Steps.{went_then, went_no_further, went_err, went_still}
use Rattle.zcore_standard.specs.Forgiving.{change_no_attribute}
use Rattle.machine_standard_objects.proofs.forgiving.change_no_attribute.Goals as goal

pub returns-in_err-test_object : goal.returns-in_err-test_object
unfolding change_no_attribute
returns-in_err-test_object c = went_err _ c.from_residual.ensures.1 (went_no_further _ c.in_err-test_object.ensures.tested)

pub returns : goal.returns
unfolding change_no_attribute
returns c = went_then _ c.in_ok-test_object.ensures.tested (went_still _ _ c.requires.sound (λ t. refl))
