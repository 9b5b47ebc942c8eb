use Rattle.std.proofs.Common.{◌≡◌, ◌≤◌, length, take, drop}
use Rattle.std.specs.Prelude.{map, vec_len, vec_capacity}
use Rattle.std.specs.List.{flat_map}
use Rattle.checker_values.specs.Noted.{noted}
use Rattle.checker_values.specs.Scope.{seen_in}
use Rattle.meaning.specs.Views.{range_of}
use Rattle.checker_statements.specs.Walk.{resolved_range, own_range_breaches}
use Rattle.checker_statements.proofs.case_rules.ranges.Given as goal

abbrev pub invariant-loop-x : goal.invariant-loop-x
invariant-loop-x l = record {
  value : map range_of l.found.items ≡ map (resolved_range (seen_in l.scope)) (take l.x-index l.given);
  tally : noted l.tally (flat_map (own_range_breaches (seen_in l.scope)) (drop l.x-index l.given))
      ≡ noted l.fn.tally (flat_map (own_range_breaches (seen_in l.scope)) l.given);
  count : vec_len l.found ≡ l.x-index;
  room : length l.given ≤ vec_capacity l.found;
}
