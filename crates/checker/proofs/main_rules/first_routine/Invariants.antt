use Rattle.std.proofs.Common.{◌≡◌, drop}
use Rattle.std.specs.Prelude.{map}
use Rattle.syntax_directives.specs.Views.{directive_tree}
use Rattle.checker.specs.Programs.{first_routine}
use Rattle.checker.proofs.main_rules.first_routine.Given as goal

abbrev pub invariant-loop-directive : goal.invariant-loop-directive
invariant-loop-directive l = first_routine (map directive_tree (drop l.directive-index l.directives)) l.key
    ≡ first_routine (map directive_tree l.directives) l.key
