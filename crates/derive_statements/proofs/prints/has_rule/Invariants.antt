use Rattle.std.proofs.Common.{◌≡◌, ◌≤◌, drop}
use Rattle.derive_tokens.specs.Pieces.{derived_all}
use Rattle.derive_values.specs.declared.places.Place.TheVariants as places
use Rattle.derive_values.specs.Places.{opened_in}
use Rattle.derive_tokens.specs.Held as held
use Rattle.derive_values.specs.Views as values
use Rattle.derive_statements.specs.Prints.{has_rule_from}
use Rattle.derive_statements.proofs.prints.has_rule.Given as goal

abbrev pub invariant-loop-at : goal.invariant-loop-at
invariant-loop-at l = record {
  few : opened_in l.place ≤ l.at;
  rest : has_rule_from (held.names_of l.routines) (values.reading_of l.reading) l.place
      (derived_all (drop l.at l.pieces))
      ≡ has_rule_from (held.names_of l.routines) (values.reading_of l.reading) places.Item (derived_all l.pieces);
}
