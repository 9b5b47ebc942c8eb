use Rattle.std.proofs.Common.{◌≡◌, ◌≤◌, length, take, drop}
use Rattle.std.specs.Prelude.{map, vec_len, vec_capacity}
use Rattle.std.specs.List.{flat_map}
use Rattle.checker_values.specs.Noted.{noted}
use Rattle.checker_values.specs.Scope.{seen_in}
use Rattle.meaning.specs.Views.{printed_of}
use Rattle.checker_statements.specs.Walk.{resolved_item, own_item_breaches}
use Rattle.checker_statements.proofs.simple_rules.items.Given as goal

abbrev pub invariant-loop-x : goal.invariant-loop-x
invariant-loop-x l = record {
  value : map printed_of l.found.items ≡ map (resolved_item (seen_in l.scope)) (take l.x-index l.printed);
  tally : noted l.tally (flat_map (own_item_breaches (seen_in l.scope)) (drop l.x-index l.printed))
      ≡ noted l.fn.tally (flat_map (own_item_breaches (seen_in l.scope)) l.printed);
  count : vec_len l.found ≡ l.x-index;
  room : length l.printed ≤ vec_capacity l.found;
}
