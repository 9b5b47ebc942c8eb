use Rattle.std.proofs.Common.{◌≡◌, ◌+◌, ◌*◌, max, take, drop}
use Rattle.std.specs.Prelude.{map}
use Rattle.std.specs.List.{flat_map}
use Rattle.syntax_trees.specs.declared.tree.Expression.{size-Expression}
use Rattle.meaning.specs.Views.{value_of}
use Rattle.checker_values.specs.Noted.{noted}
use Rattle.checker_values.specs.Scope.{seen_in}
use Rattle.checker_values.specs.Walk.{own_breaches, resolved, link_breaches, resolved_link, value_link}
use Rattle.checker_values.proofs.expression_rules.+expression.Given as goal

abbrev pub decreases-boxed_expression : goal.decreases-boxed_expression
decreases-boxed_expression l = 4 * goal.size-boxed_expression l

abbrev pub decreases-boxed_assignment : goal.decreases-boxed_assignment
decreases-boxed_assignment l = 4 * max (size-Expression l.left.now) (size-Expression l.right.now) + 3

abbrev pub decreases-all_expressions : goal.decreases-all_expressions
decreases-all_expressions l = 4 * goal.size-all_expressions l + 2

abbrev pub decreases-chain_links : goal.decreases-chain_links
decreases-chain_links l = 4 * goal.size-chain_links l + 2

abbrev pub decreases-variable : goal.decreases-variable
decreases-variable l = 4 * goal.size-variable l + 1

abbrev pub decreases-left_side : goal.decreases-left_side
decreases-left_side l = 4 * goal.size-left_side l + 1

abbrev pub decreases-index : goal.decreases-index
decreases-index l = 4 * goal.size-index l + 2

abbrev pub decreases-call : goal.decreases-call
decreases-call l = 4 * goal.size-call l + 3

abbrev pub decreases-relative_of : goal.decreases-relative_of
decreases-relative_of l = 4 * goal.size-relative_of l + 2

abbrev pub decreases-properties : goal.decreases-properties
decreases-properties l = 4 * goal.size-properties l + 2

abbrev pub decreases-length_of : goal.decreases-length_of
decreases-length_of l = 4 * goal.size-length_of l + 2

abbrev pub decreases-property_entry : goal.decreases-property_entry
decreases-property_entry l = 4 * max (size-Expression l.object.now) (size-Expression l.index.now) + 2

abbrev pub decreases-contained : goal.decreases-contained
decreases-contained l = 4 * max (size-Expression l.left.now) (size-Expression l.right.now) + 2

abbrev pub decreases-tested : goal.decreases-tested
decreases-tested l = 4 * goal.size-tested l + 2

abbrev pub decreases-prefixed : goal.decreases-prefixed
decreases-prefixed l = 4 * goal.size-prefixed l + 2

abbrev pub decreases-step_before : goal.decreases-step_before
decreases-step_before l = 4 * goal.size-step_before l + 2

abbrev pub decreases-step_after : goal.decreases-step_after
decreases-step_after l = 4 * goal.size-step_after l + 2

abbrev pub decreases-compare : goal.decreases-compare
decreases-compare l = 4 * max (size-Expression l.left.now) (size-Expression l.right.now) + 2

abbrev pub decreases-assign : goal.decreases-assign
decreases-assign l = 4 * max (size-Expression l.left.now) (size-Expression l.right.now) + 2

abbrev pub decreases-chain : goal.decreases-chain
decreases-chain l = 4 * max (goal.size-chain l) (max (size-Expression l.first.now) (size-Expression l.second.now)) + 3

abbrev pub decreases-equal : goal.decreases-equal
decreases-equal l = 4 * max (goal.size-equal l) (max (size-Expression l.left.now) (size-Expression l.right.now)) + 3

abbrev pub invariant-all_expressions-loop-e : goal.invariant-all_expressions-loop-e
invariant-all_expressions-loop-e l = record {
  value : map value_of l.found.items ≡ map (resolved (seen_in l.scope)) (take l.e-index l.given);
  tally : noted l.tally (flat_map (own_breaches (seen_in l.scope)) (drop l.e-index l.given))
      ≡ noted l.fn.tally (flat_map (own_breaches (seen_in l.scope)) l.given);
}

abbrev pub invariant-chain_links-loop-link : goal.invariant-chain_links-loop-link
invariant-chain_links-loop-link l = record {
  value : map value_link l.found.items ≡ map (resolved_link (seen_in l.scope)) (take l.link-index l.links);
  tally : noted l.tally (flat_map (link_breaches (seen_in l.scope)) (drop l.link-index l.links))
      ≡ noted l.fn.tally (flat_map (link_breaches (seen_in l.scope)) l.links);
}
