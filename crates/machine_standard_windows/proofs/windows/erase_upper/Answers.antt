use Rattle.std.proofs.Common.{sym, ◌∙◌}
use Rattle.machine_standard_windows.proofs.Selecting.{erases_none, erases_some}
use Rattle.machine_standard_windows.proofs.windows.erase_upper.Goals as goal

pub returns-in-None-clause-redraws : goal.returns-in-None-clause-redraws
returns-in-None-clause-redraws c = erases_none c.args.start c.args.turn.now c.args.text.now.items
    (λ next. sym c.in-None.is ∙ c.open_upper.ensures next)

pub returns-in-Some-clause-redraws : goal.returns-in-Some-clause-redraws
returns-in-Some-clause-redraws c = erases_some c.args.start c.args.turn.now _ _ c.args.text.now.items _
    (λ next. sym c.in-Some.is ∙ c.open_upper.ensures next) c.begun_at.ensures c.cut.ensures.cut
