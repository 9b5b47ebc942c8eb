use Rattle.std.proofs.Common.{slice_index}
use Rattle.zcore_standard.specs.Performing.{perform_further}
use Rattle.zcore_standard.specs.Windows.{erase_window, split_window}
use Rattle.machine_standard_windows.proofs.Drawing.{redraws_told}
use Rattle.machine_standard_steps.proofs.perform.perform_on_windows.Goals as goal

pub returns-in-SetWindow-clause-told : goal.returns-in-SetWindow-clause-told
unfolding perform_further
returns-in-SetWindow-clause-told c = λ loaded. rw c.in-SetWindow.is c.set_window.ensures.told

pub returns-in-SetCursor-clause-told : goal.returns-in-SetCursor-clause-told
unfolding perform_further
returns-in-SetCursor-clause-told c = λ loaded. rw c.in-SetCursor.is c.set_cursor.ensures.told

pub returns-in-EraseWindow-clause-told : goal.returns-in-EraseWindow-clause-told
unfolding perform_further
returns-in-EraseWindow-clause-told c = λ loaded. rw c.in-EraseWindow.is
    (redraws_told _ c.args.start c.args.turn.now c.erase_window.new.turn _ _
    (λ here. erase_window here (slice_index c.args.values.now 0)) _ c.requires.sound c.erase_window.ensures.redraws)

pub returns-in-SplitWindow-clause-told : goal.returns-in-SplitWindow-clause-told
unfolding perform_further
returns-in-SplitWindow-clause-told c = λ loaded. rw c.in-SplitWindow.is
    (redraws_told _ c.args.start c.args.turn.now c.split_window.new.turn _ _
    (λ here. split_window here (slice_index c.args.values.now 0)) _ c.requires.sound c.split_window.ensures.redraws)
