use Rattle.std.proofs.Common.{◌≡◌, ◌++◌, length, drop}
use Rattle.std.specs.Prelude.{map}
use Rattle.syntax_directives.specs.Views.{directive_tree}
use Rattle.checker_values.specs.Noted.{noted}
use Rattle.checker_statements.specs.Objects.{object_trees, standing_from, standing_breaches, parents_from, parents_of}
use Rattle.checker_statements.proofs.standing.parents.Given as goal

abbrev pub invariant-loop-directive : goal.invariant-loop-directive
invariant-loop-directive l = record {
  value : l.parents.items
      ++ parents_from l.whole.entries l.chain.items (length l.parents.items)
      (object_trees (map directive_tree (drop l.directive-index l.directives)))
      ≡ parents_of l.whole.entries (object_trees (map directive_tree l.directives));
  tally : noted l.tally
      (standing_from l.whole.entries l.chain.items (length l.parents.items)
      (object_trees (map directive_tree (drop l.directive-index l.directives))))
      ≡ noted l.fn.tally (standing_breaches l.whole.entries (object_trees (map directive_tree l.directives)));
}
