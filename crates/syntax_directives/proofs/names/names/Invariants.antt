use Rattle.std.proofs.Common.{◌≡◌, map, ◌-◌}
use Rattle.syntax_trees.specs.Views.{name_tree}
use Rattle.syntax_trees.specs.Returned.{ahead}
use Rattle.syntax_trees.specs.Parse.{repeated}
use Rattle.syntax_trees.proofs.Loops.{joined}
use Rattle.syntax_expressions.specs.PartParse.{is_name, expect_name}
use Rattle.syntax_directives.specs.Parse as spec
use Rattle.syntax_directives.proofs.names.names.Given as goal

abbrev pub invariant-loop-turn : goal.invariant-loop-turn
invariant-loop-turn l =
    joined (map name_tree l.found.items) (repeated is_name expect_name (l._turn-end - l._turn) (ahead l.parser))
    ≡ spec.names (ahead l.fn.parser)
