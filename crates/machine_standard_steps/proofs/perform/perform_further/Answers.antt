use Rattle.std.proofs.Common.{ap, drop, sym, ◌∙◌}
use Rattle.zcore_standard.specs.Performing.{perform_further}
use Rattle.zcore_standard.specs.Screen.{cursor_column, cursor_row}
use Rattle.machine_frames.proofs.Steps.{told_went}
use Rattle.machine_standard_windows.specs.TurnState.{place}
use Rattle.machine_standard_windows.proofs.TurnTexts.{keeps_still, keeps_grew}
use Rattle.machine_standard_steps.proofs.Doing.{cursor_told, keeping_told, table_told}
use Rattle.machine_standard_steps.proofs.perform.perform_further.Goals as goal

pub perform_on_windows-requires-clause-windows : goal.perform_on_windows-requires-clause-windows
perform_on_windows-requires-clause-windows c = sym c.is_on_windows.ensures ∙ c.if-is_on_windows.true

pub returns-then-is_on_windows-clause-told : goal.returns-then-is_on_windows-clause-told
returns-then-is_on_windows-clause-told c = c.perform_on_windows.ensures.told c.args.loaded.now

pub returns-in-Restart-clause-told : goal.returns-in-Restart-clause-told
unfolding perform_further
returns-in-Restart-clause-told c = rw c.in-Restart.is c.restart.ensures.told

pub returns-in-Random-clause-told : goal.returns-in-Random-clause-told
unfolding perform_further
returns-in-Random-clause-told c = rw c.in-Random.is (told_went _ _ c.random.ensures.went)

pub returns-in-Random-clause-text : goal.returns-in-Random-clause-text
returns-in-Random-clause-text c = keeps_still _ _ c.requires.text

pub returns-in-Save-clause-told : goal.returns-in-Save-clause-told
unfolding perform_further
returns-in-Save-clause-told c = rw c.in-Save.is c.use_file.ensures.told

pub returns-in-Restore-clause-told : goal.returns-in-Restore-clause-told
unfolding perform_further
returns-in-Restore-clause-told c = rw c.in-Restore.is c.use_file-in-Restore.ensures.told

pub returns-in-SaveUndo-clause-told : goal.returns-in-SaveUndo-clause-told
unfolding perform_further
returns-in-SaveUndo-clause-told c = rw c.in-SaveUndo.is (told_went _ _ c.save_undo.ensures.went)

pub returns-in-SaveUndo-clause-text : goal.returns-in-SaveUndo-clause-text
returns-in-SaveUndo-clause-text c = keeps_still _ _ c.requires.text

pub returns-in-RestoreUndo-clause-told : goal.returns-in-RestoreUndo-clause-told
unfolding perform_further
returns-in-RestoreUndo-clause-told c = rw c.in-RestoreUndo.is (told_went _ _ c.restore_undo.ensures.went)

pub returns-in-RestoreUndo-clause-text : goal.returns-in-RestoreUndo-clause-text
returns-in-RestoreUndo-clause-text c = keeps_still _ _ c.requires.text

pub returns-in-Read-clause-told : goal.returns-in-Read-clause-told
unfolding perform_further
returns-in-Read-clause-told c = rw c.in-Read.is (c.read_line.ensures.told c.args.here)

pub returns-in-ReadChar-clause-told : goal.returns-in-ReadChar-clause-told
unfolding perform_further
returns-in-ReadChar-clause-told c = rw c.in-ReadChar.is (c.read_key.ensures.told c.args.here)

pub returns-in-OutputStream-clause-told : goal.returns-in-OutputStream-clause-told
unfolding perform_further
returns-in-OutputStream-clause-told c = rw c.in-OutputStream.is c.output_stream.ensures.told

pub returns-in-GetCursor-clause-told : goal.returns-in-GetCursor-clause-told
returns-in-GetCursor-clause-told c = rw c.in-GetCursor.is
    (cursor_told _ _ c.args.loaded.now (place c.args.turn.now c.args.here) c.args.ending.after c.args.ending.result
    c.args.ending.branch c.args.values.now _ _
    (c.cursor_of-cursor.ensures.row c.args.here
    ∙ ap (λ l. cursor_row (place c.args.turn.now c.args.here) (drop c.args.start l)) c.as_slice.ensures.value)
    (c.cursor_of-cursor.ensures.column c.args.here
    ∙ ap (λ l. cursor_column (place c.args.turn.now c.args.here) (drop c.args.start l)) c.as_slice.ensures.value)
    c.get_cursor.ensures)

pub returns-in-GetCursor-clause-text : goal.returns-in-GetCursor-clause-text
returns-in-GetCursor-clause-text c = keeps_still _ _ c.requires.text

pub returns-in-PrintTable-clause-told : goal.returns-in-PrintTable-clause-told
returns-in-PrintTable-clause-told c = rw c.in-PrintTable.is
    (table_told _ c.args.loaded.now (place c.args.turn.now c.args.here) c.args.ending.after c.args.ending.result
    c.args.ending.branch c.args.values.now c.print_rows.ensures.told)

pub returns-in-PrintTable-clause-text : goal.returns-in-PrintTable-clause-text
returns-in-PrintTable-clause-text c = keeps_grew c.requires.text c.print_rows.ensures.text

pub returns-in_default-clause-told : goal.returns-in_default-clause-told
returns-in_default-clause-told c = keeping_told _ c.args.loaded.now c.args.operation (place c.args.turn.now c.args.here)
    c.args.ending.after c.args.ending.result c.args.ending.branch c.args.values.now c.in_default.not-Restart
    c.in_default.not-Random c.in_default.not-Read c.in_default.not-ReadChar c.in_default.not-OutputStream
    c.in_default.not-SaveUndo c.in_default.not-RestoreUndo c.in_default.not-Save c.in_default.not-Restore
    c.in_default.not-GetCursor c.in_default.not-PrintTable
    (sym c.is_on_windows.ensures ∙ c.if-is_on_windows.false) c.perform_keeping.ensures.told

pub returns-in_default-clause-text : goal.returns-in_default-clause-text
returns-in_default-clause-text c = keeps_grew c.requires.text c.perform_keeping.ensures.text
