use Rattle.std.proofs.Common.{List, [], ℕ, map, refl, ap, ◌∙◌}
use Rattle.syntax_trees.specs.declared.tree.Name.{Name}
use Rattle.syntax_trees.specs.Views.{name_tree}
use Rattle.checker_values.specs.Names.{local_from}
use Rattle.checker_values.specs.Noted.{noted}
use Rattle.checker_values.specs.Scope.{local_binding, file_in}
use Rattle.checker.specs.Programs.{locals_breaches}
use Rattle.checker.proofs.Locals.{routine_scoped}
use Rattle.checker.proofs.directive_rules.routine.Goals as goal

pub returns : goal.returns
returns c =
    routine_scoped c.routine_in.result _ (file_in c.args.file.now) c.args.routine.now c.args.tally.now
    c.locals.new.tally c.routine_in.new.tally refl
    (λ (key : List ℕ). c.in_ok-locals.ensures.table key
    ∙ ap (λ (y : List Name). local_binding (local_from 0 (map name_tree y) key)) c.deref.ensures.value)
    (c.in_ok-locals.ensures.breaches
    ∙ ap (λ (y : List Name). noted c.args.tally.now (locals_breaches [] (map name_tree y))) c.deref.ensures.value)
    c.routine_in.ensures
