use Rattle.std.proofs.Common.{ap, sym, ◌∙◌}
use Rattle.std.specs.Prelude.{slice_index_or}
use Rattle.machine_picture.specs.Drawing.{picture_of}
use Rattle.machine_picture.specs.Picture.{line_erased, selected, split, window_erased, with_cursor}
use Rattle.machine_picture.proofs.Others.{others_keep}
use Rattle.machine_picture.proofs.picture.Picture.perform.Goals as goal

pub returns-in-Restart : goal.returns-in-Restart
returns-in-Restart c = rw c.in-Restart.is c.erase.ensures

pub returns-in-SplitWindow : goal.returns-in-SplitWindow
returns-in-SplitWindow c = rw c.in-SplitWindow.is (c.split.ensures
    ∙ ap (λ n. split c.args.version n (picture_of c.args.self.now)) c.value_at.ensures)

pub returns-in-SetWindow : goal.returns-in-SetWindow
returns-in-SetWindow c = rw c.in-SetWindow.is (c.select.ensures
    ∙ ap (λ n. selected n (picture_of c.args.self.now)) c.value_at-in-SetWindow.ensures)

pub returns-in-SetCursor : goal.returns-in-SetCursor
returns-in-SetCursor c = rw c.in-SetCursor.is (c.set_cursor.ensures
    ∙ ap (λ n. with_cursor c.args.window n c.value_at-in-SetCursor-2.result (picture_of c.args.self.now))
    c.value_at-in-SetCursor.ensures
    ∙ ap (λ n. with_cursor c.args.window (slice_index_or c.args.values.now 0 0) n (picture_of c.args.self.now)) c.value_at-in-SetCursor-2.ensures)

pub returns-in-EraseLine : goal.returns-in-EraseLine
returns-in-EraseLine c = rw c.in-EraseLine.is (c.erase_line.ensures
    ∙ ap (λ n. line_erased c.args.window n (picture_of c.args.self.now)) c.value_at-in-EraseLine.ensures)

pub returns-in-EraseWindow : goal.returns-in-EraseWindow
returns-in-EraseWindow c = rw c.in-EraseWindow.is (c.erase_window.ensures
    ∙ ap (λ n. window_erased n (picture_of c.args.self.now)) c.value_at-in-EraseWindow.ensures)

pub returns-in_default : goal.returns-in_default
returns-in_default c = sym (others_keep c.args.version c.args.operation c.args.window c.args.values.now
    (picture_of c.args.self.now) c.in_default.not-Restart c.in_default.not-SplitWindow c.in_default.not-SetWindow
    c.in_default.not-SetCursor c.in_default.not-EraseLine c.in_default.not-EraseWindow)
