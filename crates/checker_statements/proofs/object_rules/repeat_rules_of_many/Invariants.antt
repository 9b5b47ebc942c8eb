use Rattle.std.proofs.Common.{◌≡◌, ℕ, List, [], take, drop}
use Rattle.std.specs.Prelude.{map}
use Rattle.syntax_trees.specs.Views.{name_tree}
use Rattle.checker_values.specs.Names.{in_table, local_from, repeated_breaches}
use Rattle.checker_values.specs.Noted.{noted}
use Rattle.checker_values.specs.Scope.{local_binding}
use Rattle.checker_statements.proofs.object_rules.repeat_rules_of_many.Given as goal

abbrev pub invariant-loop-number : goal.invariant-loop-number
invariant-loop-number l = record {
  table : (key : List ℕ) → in_table l.table.entries key
      ≡ local_binding (local_from 0 (map name_tree (take l.number l.names)) key);
  tally : noted l.tally
      (repeated_breaches (map name_tree (take l.number l.names)) (map name_tree (drop l.number l.names)))
      ≡ noted l.fn.tally (repeated_breaches [] (map name_tree l.names));
}
