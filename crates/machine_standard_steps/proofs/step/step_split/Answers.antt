use Rattle.std.proofs.lemmas.List.{length-drop}
use Rattle.std.proofs.Common.{◌-◌, ◌<◌, ◌∙◌, ap, sym, subst, length, drop, refl, ℕ, List, Some, None, arith}
use Rattle.zcore_standard.specs.declared.operations.StandardOperation.TheVariants.{SplitWindow}
use Rattle.zcore_standard.specs.Instruction.{decode_row}
use Rattle.zcore_standard.specs.Windows.{split_window}
use Rattle.machine_frames.specs.Contents.{memory_of}
use Rattle.machine_frames.specs.States.{state_of}
use Rattle.machine_picture.specs.Drawing.{picture_of}
use Rattle.machine_standard_windows.specs.TurnState.{place}
use Rattle.machine_standard_windows.proofs.Drawing.{redraws_told}
use Rattle.machine_standard_steps.proofs.Redrawing.{redraws_none, splits, splits_redraws, splits_undecoded, splits_unread, values_read}
use Rattle.machine_standard_steps.proofs.Stepping.{told_err_seen}
use Rattle.machine_standard_steps.proofs.step.step_split.Goals as goal

pub decode_row-requires-clause-within : goal.decode_row-requires-clause-within
decode_row-requires-clause-within c =
    subst (λ (l : List ℕ). c.args.here.program_counter < length l)
    (sym (c.memory-memory.ensures ∙ ap memory_of c.store.ensures)) c.requires.within

pub returns-in-Err-clause-told : goal.returns-in-Err-clause-told
returns-in-Err-clause-told c = λ story.
    splits_undecoded _ story (place c.args.turn.now c.args.here) _ _ c.requires.store.sound
    (c.in-Err.ensures.instruction ∙ ap (λ l. decode_row l c.args.here.program_counter c.args.row)
    (c.memory-memory.ensures ∙ ap memory_of c.store.ensures)
    ∙ ap (λ row. decode_row (memory_of c.args.store.now.store) c.args.here.program_counter row) c.requires.row)

pub returns-in_err-operand_values-clause-told : goal.returns-in_err-operand_values-clause-told
returns-in_err-operand_values-clause-told c = λ story.
    told_err_seen (place c.args.turn.now) _ c.from_residual.ensures.1
    (splits_unread story (place c.args.turn.now c.args.here) _ _ _ _
    (c.in-Ok.ensures.instruction ∙ ap (λ l. decode_row l c.args.here.program_counter c.args.row)
    (c.memory-memory.ensures ∙ ap memory_of c.store.ensures)
    ∙ ap (λ row. decode_row (memory_of c.args.store.now.store) c.args.here.program_counter row) c.requires.row)
    c.in_err-operand_values.ensures.went)

pub returns-in_err-operand_values-clause-picture : goal.returns-in_err-operand_values-clause-picture
returns-in_err-operand_values-clause-picture c =
    redraws_none _ _ c.args.version (Some SplitWindow) (place c.args.turn.now c.args.here)
    (state_of c.args.store.now.store (drop c.args.start c.args.text.now.items)) _ (picture_of c.args.picture.now)
    c.from_residual.ensures.1

pub returns-clause-told : goal.returns-clause-told
returns-clause-told c = λ story.
    splits _ story (place c.args.turn.now c.args.here) _ _ _ _
    (c.in-Ok.ensures.instruction ∙ ap (λ l. decode_row l c.args.here.program_counter c.args.row)
    (c.memory-memory.ensures ∙ ap memory_of c.store.ensures)
    ∙ ap (λ row. decode_row (memory_of c.args.store.now.store) c.args.here.program_counter row) c.requires.row)
    c.in_ok-operand_values.ensures.went
    (redraws_told _ c.args.start c.args.turn.now c.split_window.new.turn _ _
    (λ here. split_window here 0) _ c.in_ok-operand_values.ensures.went.did.0.sound c.split_window.ensures.redraws)

pub returns-clause-picture : goal.returns-clause-picture
returns-clause-picture c =
    splits_redraws c.args.version (place c.args.turn.now c.args.here)
    (state_of c.args.store.now.store (drop c.args.start c.args.text.now.items))
    (drop c.args.start c.split_window.new.text.items) _ c.args.turn.now.standard_state.window
    (c.len.result - c.args.start) (picture_of c.args.picture.now) _ refl
    (values_read _ (drop c.args.start c.args.text.now.items) _ _ _
    (c.in-Ok.ensures.instruction ∙ ap (λ l. decode_row l c.args.here.program_counter c.args.row)
    (c.memory-memory.ensures ∙ ap memory_of c.store.ensures)
    ∙ ap (λ row. decode_row (memory_of c.args.store.now.store) c.args.here.program_counter row) c.requires.row)
    c.in_ok-operand_values.ensures.went)
    (omega (arith, c.len.ensures, length-drop c.args.start c.split_window.new.text.items)) c.redraw.ensures
