use Rattle.std.proofs.Common.{◌≡◌, ◌≤◌, ◌++◌, length, drop}
use Rattle.std.specs.Prelude.{map, vec_len, vec_capacity}
use Rattle.std.specs.List.{flat_map}
use Rattle.syntax_trees.specs.Views.{name_tree}
use Rattle.checker_values.specs.Noted.{noted}
use Rattle.checker_values.specs.Scope.{file_in}
use Rattle.checker_statements.specs.Objects.{given_of, given_breaches}
use Rattle.checker_statements.proofs.object_rules.attributes.Given as goal

abbrev pub invariant-loop-name : goal.invariant-loop-name
invariant-loop-name l = record {
  found : l.found.items ++ map (given_of (file_in l.file)) (map name_tree (drop l.name-index l.names))
      ≡ map (given_of (file_in l.file)) (map name_tree l.names);
  tally : noted l.tally (flat_map (given_breaches l.file.table.entries) (map name_tree (drop l.name-index l.names)))
      ≡ noted l.fn.tally (flat_map (given_breaches l.file.table.entries) (map name_tree l.names));
  count : vec_len l.found ≡ l.name-index;
  room : length l.names ≤ vec_capacity l.found;
}
