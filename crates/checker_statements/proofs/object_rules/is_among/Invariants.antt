use Rattle.std.proofs.Common.{◌≡◌, drop}
use Rattle.std.specs.Prelude.{map}
use Rattle.syntax_trees.specs.Views.{name_tree}
use Rattle.checker_values.specs.Names.{has_name}
use Rattle.checker_statements.proofs.object_rules.is_among.Given as goal

abbrev pub invariant-loop-other : goal.invariant-loop-other
invariant-loop-other l = has_name (map name_tree (drop l.other-index l.others)) (name_tree l.fn.name)
    ≡ has_name (map name_tree l.others) (name_tree l.fn.name)
