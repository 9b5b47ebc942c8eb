use Rattle.std.proofs.Common.{◌≡◌, drop}
use Rattle.std.specs.Prelude.{map}
use Rattle.syntax_directives.specs.Views.{directive_tree}
use Rattle.checker_values.specs.ByName.{has_by_name}
use Rattle.checker_values.proofs.names.define_by_name.Given as goal

abbrev pub invariant-loop-directive : goal.invariant-loop-directive
invariant-loop-directive l = has_by_name (map directive_tree (drop l.directive-index l.directives))
    ≡ has_by_name (map directive_tree l.directives)
