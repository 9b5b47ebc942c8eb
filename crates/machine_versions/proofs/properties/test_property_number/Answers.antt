use Rattle.std.proofs.Common.{refl, nat_le, arith}
use Rattle.std.proofs.lemmas.Bool.{le-leb, lt-leb}
use Rattle.zcore_versions.specs.SmallProperties.{test_property_number}
use Rattle.machine_small_entries.proofs.Values.{and_false}
use Rattle.machine_versions.proofs.properties.test_property_number.Goals.{then-number-eq0-via-then-number-eq0}
use Rattle.machine_versions.proofs.properties.test_property_number.Goals.{
  then-number-eq0-via-else-number-eq0+then-number-gt-LAST_PROPERTY,
}
use Rattle.machine_versions.proofs.properties.test_property_number.Goals as goal

pub returns-then-number-eq0-clause-says : goal.returns-then-number-eq0-clause-says
unfolding test_property_number
returns-then-number-eq0-clause-says c = elim c.then-number-eq0.branch [
  | then-number-eq0-via-then-number-eq0 w ↦ record { said = λ s. rw w.if-number-eq0.true refl }
  | then-number-eq0-via-else-number-eq0+then-number-gt-LAST_PROPERTY w ↦ record {
    said = λ s. rw
        (lt-leb c.args.number 31 w.if-number-gt-LAST_PROPERTY.true, and_false (nat_le 1 c.args.number)) refl;
  }
]

pub returns-clause-says : goal.returns-clause-says
unfolding test_property_number
returns-clause-says c = record {
  said = λ s. rw (le-leb 1 c.args.number (omega arith), le-leb c.args.number 31 (omega arith)) refl;
}
