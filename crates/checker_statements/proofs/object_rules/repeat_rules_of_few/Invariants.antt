use Rattle.std.proofs.Common.{◌≡◌, [], take, drop}
use Rattle.std.specs.Prelude.{map}
use Rattle.syntax_trees.specs.Views.{name_tree}
use Rattle.checker_values.specs.Names.{repeated_breaches}
use Rattle.checker_values.specs.Noted.{noted}
use Rattle.checker_statements.proofs.object_rules.repeat_rules_of_few.Given as goal

abbrev pub invariant-loop-number : goal.invariant-loop-number
invariant-loop-number l =
    noted l.tally (repeated_breaches (map name_tree (take l.number l.names)) (map name_tree (drop l.number l.names)))
    ≡ noted l.fn.tally (repeated_breaches [] (map name_tree l.names))
