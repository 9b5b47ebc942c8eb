use Rattle.std.proofs.Common.{◌≡◌, map, ◌-◌}
use Rattle.syntax_trees.specs.Returned.{ahead}
use Rattle.syntax_trees.specs.Parse.{repeated}
use Rattle.syntax_trees.proofs.Loops.{joined}
use Rattle.syntax_statements.specs.PartParse.{begins_value}
use Rattle.syntax_directives.specs.Views.{value_tree}
use Rattle.syntax_directives.specs.Parse as spec
use Rattle.syntax_directives.proofs.arrays.values.Given as goal

abbrev pub invariant-loop-turn : goal.invariant-loop-turn
invariant-loop-turn l =
    joined (map value_tree l.found.items)
    (repeated begins_value spec.array_value (l._turn-end - l._turn) (ahead l.parser))
    ≡ spec.values (ahead l.fn.parser)
