use Rattle.std.proofs.Common.{Ok, option_map}
use Rattle.machine_frames.proofs.Steps.{went_then, went_no_further}
use Rattle.tables.specs.Standing.{listed_of}
use Rattle.zcore_versions.specs.SmallProperties.{tested_property}
use Rattle.machine_opcodes.proofs.Saying.{went_says, seen_went_err}
use Rattle.machine_versions.proofs.properties.tested_property.Goals as goal

pub returns-in_err-test_object-clause-went : goal.returns-in_err-test_object-clause-went
unfolding tested_property
returns-in_err-test_object-clause-went c = seen_went_err (option_map listed_of) _ c.from_residual.ensures.1
    (went_no_further _ c.in_err-test_object.ensures.tested)

pub returns-in_err-test_property_number-clause-went : goal.returns-in_err-test_property_number-clause-went
unfolding tested_property
returns-in_err-test_property_number-clause-went c =
    seen_went_err (option_map listed_of) _ c.from_residual-in_err-test_property_number.ensures.1
    (went_then _ c.in_ok-test_object.ensures.tested
    (went_no_further _ (went_says _ _ c.requires.sound c.in_err-test_property_number.ensures.says)))

pub returns-clause-went : goal.returns-clause-went
unfolding tested_property
returns-clause-went c =
    went_then _ c.in_ok-test_object.ensures.tested
    (went_then _ (went_says (Ok tt) _ c.requires.sound c.in_ok-test_property_number.ensures.says)
    c.find_property.ensures.went)
