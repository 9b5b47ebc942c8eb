use Rattle.std.proofs.Common.{◌≡◌, [], drop}
use Rattle.std.specs.Prelude.{map}
use Rattle.std.specs.List.{flat_map}
use Rattle.syntax_directives.specs.Views.{property_tree}
use Rattle.checker_values.specs.Noted.{noted}
use Rattle.checker_values.specs.Scope.{file_in}
use Rattle.meaning.specs.Views.{property_of}
use Rattle.checker_statements.specs.Objects.{with_properties, provided_breaches}
use Rattle.checker_statements.proofs.object_rules.properties.Given as goal

abbrev pub invariant-loop-one : goal.invariant-loop-one
invariant-loop-one l = record {
  found : with_properties (file_in l.file) (map property_of l.found.items)
      (map property_tree (drop l.one-index l.written))
      ≡ with_properties (file_in l.file) [] (map property_tree l.written);
  tally : noted l.tally
      (flat_map (provided_breaches l.file.table.entries) (map property_tree (drop l.one-index l.written)))
      ≡ noted l.fn.tally (flat_map (provided_breaches l.file.table.entries) (map property_tree l.written));
}
