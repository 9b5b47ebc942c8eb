use Rattle.std.proofs.Common.{◌≡◌, take, drop}
use Rattle.std.specs.Prelude.{map}
use Rattle.std.specs.List.{flat_map}
use Rattle.checker_values.specs.Noted.{noted}
use Rattle.checker_values.specs.Scope.{seen_in}
use Rattle.checker_values.specs.Walk.{own_property_breaches, resolved_property}
use Rattle.checker_values.proofs.expression_rules.property_numbers.Given as goal

abbrev pub invariant-loop-name : goal.invariant-loop-name
invariant-loop-name l = record {
  value : l.numbers.items ≡ map (resolved_property (seen_in l.scope)) (take l.name-index l.others);
  tally : noted l.tally (flat_map (own_property_breaches (seen_in l.scope)) (drop l.name-index l.others))
      ≡ noted l.fn.tally (flat_map (own_property_breaches (seen_in l.scope)) l.others);
}
