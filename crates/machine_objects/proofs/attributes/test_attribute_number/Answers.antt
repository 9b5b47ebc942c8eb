use Rattle.std.proofs.Common.{refl}
use Rattle.std.proofs.lemmas.Bool.{lt-ltb, le-ltb}
use Rattle.zcore.specs.Objects.{test_attribute_number}
use Rattle.machine_objects.proofs.attributes.test_attribute_number.Goals as goal

pub returns-then-attribute-ge-ATTRIBUTE_COUNT-clause-says : goal.returns-then-attribute-ge-ATTRIBUTE_COUNT-clause-says
unfolding test_attribute_number
returns-then-attribute-ge-ATTRIBUTE_COUNT-clause-says c =
    record { said = λ s. rw (le-ltb c.args.attribute 48 c.if-attribute-ge-ATTRIBUTE_COUNT.true) refl }

pub returns-clause-says : goal.returns-clause-says
unfolding test_attribute_number
returns-clause-says c = record { said = λ s. rw (lt-ltb c.args.attribute 48 c.if-attribute-ge-ATTRIBUTE_COUNT.false) refl }
