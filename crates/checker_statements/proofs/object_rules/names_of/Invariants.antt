use Rattle.std.proofs.Common.{◌≡◌, ◌≤◌, ◌++◌, length, drop}
use Rattle.std.specs.Prelude.{map, vec_len, vec_capacity}
use Rattle.syntax_trees.specs.Views.{name_tree}
use Rattle.syntax_directives.specs.Views.{property_tree}
use Rattle.checker_statements.specs.Objects.{property_name}
use Rattle.checker_statements.proofs.object_rules.names_of.Given as goal

abbrev pub invariant-loop-one : goal.invariant-loop-one
invariant-loop-one l = record {
  found : map name_tree l.names.items ++ map property_name (map property_tree (drop l.one-index l.written))
      ≡ map property_name (map property_tree l.written);
  count : vec_len l.names ≡ l.one-index;
  room : length l.written ≤ vec_capacity l.names;
}
