use Rattle.zcore_standard.specs.Windows.{erase_upper, split_window}
use Rattle.machine_standard_windows.proofs.Selecting.{redraws_by, redraws_nothing, splits_none, splits_some}
use Rattle.machine_standard_windows.proofs.windows.split_window.Goals as goal

pub returns-then-lines-ne0-clause-redraws : goal.returns-then-lines-ne0-clause-redraws
returns-then-lines-ne0-clause-redraws c = redraws_nothing c.args.start c.args.turn.now c.args.text.now.items
    (λ here. split_window here c.args.lines) (splits_some c.args.lines c.if-lines-ne0.true)

pub returns-clause-redraws : goal.returns-clause-redraws
returns-clause-redraws c = redraws_by c.args.start c.args.turn.now c.erase_upper.new.turn _ _ erase_upper
    (λ here. split_window here c.args.lines) (splits_none c.args.lines c.if-lines-ne0.false)
    c.erase_upper.ensures.redraws
