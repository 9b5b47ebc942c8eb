use Rattle.std.proofs.Common.{◌≡◌, ◌≤◌, ◌+◌, drop}
use Rattle.std.specs.Prelude.{map}
use Rattle.syntax_directives.specs.Views.{directive_tree}
use Rattle.messages_diagnosis.specs.Figures.{how_many, is_attribute}
use Rattle.messages_diagnosis.proofs.definitions.attributes_in.Given as goal

abbrev pub invariant-loop-directive : goal.invariant-loop-directive
invariant-loop-directive l = record {
  sum : l.count + how_many is_attribute (map directive_tree (drop l.directive-index l.directives))
      ≡ how_many is_attribute (map directive_tree l.directives);
  bound : l.count ≤ l.directive-index;
}
