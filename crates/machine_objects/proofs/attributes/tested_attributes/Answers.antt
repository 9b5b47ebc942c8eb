use Rattle.std.proofs.Common.{Ok}
use Rattle.machine_frames.proofs.Steps.{went_then, went_no_further, went_err}
use Rattle.zcore.specs.Objects.{tested_attributes}
use Rattle.machine_opcodes.proofs.Saying.{went_says}
use Rattle.machine_objects.proofs.Linking.{attributes_read}
use Rattle.machine_objects.proofs.attributes.tested_attributes.Goals as goal

pub returns-in_err-test_object-clause-went : goal.returns-in_err-test_object-clause-went
unfolding tested_attributes
returns-in_err-test_object-clause-went c = went_err _ c.from_residual.ensures.1
    (went_no_further _ c.in_err-test_object.ensures.tested)

pub returns-in_err-test_attribute_number-clause-went : goal.returns-in_err-test_attribute_number-clause-went
unfolding tested_attributes
returns-in_err-test_attribute_number-clause-went c =
    went_err _ c.from_residual-in_err-test_attribute_number.ensures.1
    (went_then _ c.in_ok-test_object.ensures.tested
    (went_no_further _ (went_says _ _ c.requires.sound c.in_err-test_attribute_number.ensures.says)))

pub returns-clause-went : goal.returns-clause-went
unfolding tested_attributes
returns-clause-went c =
    went_then _ c.in_ok-test_object.ensures.tested
    (went_then _ (went_says (Ok tt) _ c.requires.sound c.in_ok-test_attribute_number.ensures.says)
    (attributes_read c.args.header.now _ _ c.args.object c.args.attribute _ c.requires c.attribute_place.ensures
    c.read_byte.ensures))
