use Rattle.std.proofs.Common.{◌≡◌, ◌≤◌, ◌++◌, length, drop}
use Rattle.std.specs.Prelude.{map, vec_len, vec_capacity}
use Rattle.std.specs.List.{flat_map}
use Rattle.syntax_directives.specs.Views.{value_tree}
use Rattle.checker_values.specs.Noted.{noted}
use Rattle.checker_values.specs.Scope.{file_in}
use Rattle.checker_statements.specs.Objects.{word_of, value_breaches}
use Rattle.checker_statements.proofs.object_rules.words.Given as goal

abbrev pub invariant-loop-value : goal.invariant-loop-value
invariant-loop-value l = record {
  found : l.found.items ++ map (word_of (file_in l.file)) (map value_tree (drop l.value-index l.values))
      ≡ map (word_of (file_in l.file)) (map value_tree l.values);
  tally : noted l.tally (flat_map (value_breaches l.file.table.entries) (map value_tree (drop l.value-index l.values)))
      ≡ noted l.fn.tally (flat_map (value_breaches l.file.table.entries) (map value_tree l.values));
  count : vec_len l.found ≡ l.value-index;
  room : length l.values ≤ vec_capacity l.found;
}
