use Rattle.std.proofs.lemmas.List.{length-drop}
use Rattle.std.proofs.Common.{◌-◌, ◌<◌, ◌≤◌, ◌∙◌, ap, sym, subst, length, drop, refl, ℕ, List, Some, arith}
use Rattle.std.proofs.lemmas.List.{length-take-le}
use Rattle.zcore.specs.declared.operations.OpcodeRow.{OpcodeRow}
use Rattle.zcore_standard.specs.Instruction.{decode_row}
use Rattle.zcore_standard.specs.Operations.{row_of}
use Rattle.zcore_versions.proofs.Refusing.{stands}
use Rattle.machine_frames.specs.Contents.{memory_of}
use Rattle.machine_frames.proofs.Steps.{went_store}
use Rattle.machine_lines.proofs.Lines.{base_kept}
use Rattle.machine_standard_windows.specs.TurnState.{place}
use Rattle.machine_standard_windows.proofs.TurnTexts.{keeps_still}
use Rattle.machine_standard_steps.proofs.Stepping.{decodes_no_further, executes_further, reads_no_further}
use Rattle.machine_frames.specs.States.{state_of}
use Rattle.machine_picture.specs.Drawing.{picture_of}
use Rattle.machine_standard_steps.proofs.Redrawing.{redraws_by, redraws_none, values_read}
use Rattle.machine_standard_steps.proofs.Stepping.{told_err_seen}
use Rattle.machine_standard_steps.proofs.step.step_further.Goals as goal

pub decode_row-requires-clause-within : goal.decode_row-requires-clause-within
decode_row-requires-clause-within c =
    subst (λ (l : List ℕ). c.args.here.program_counter < length l)
    (sym (c.memory-memory.ensures ∙ ap memory_of c.store.ensures))
    (stands (memory_of c.args.store.now.store) c.args.here.program_counter c.args.operation c.requires.found).within

pub returns-in-Err-clause-told : goal.returns-in-Err-clause-told
returns-in-Err-clause-told c = decodes_no_further _ c.args.loaded.now _ (place c.args.turn.now c.args.here) _ _
    c.requires.store.sound
    (c.in-Err.ensures.instruction ∙ ap (λ l. decode_row l c.args.here.program_counter c.args.row)
    (c.memory-memory.ensures ∙ ap memory_of c.store.ensures)
    ∙ ap (λ row. decode_row (memory_of c.args.store.now.store) c.args.here.program_counter row) c.requires.row)

pub returns-in_err-operand_values-clause-told : goal.returns-in_err-operand_values-clause-told
returns-in_err-operand_values-clause-told c = told_err_seen (place c.args.turn.now) _ c.from_residual.ensures.1
    (reads_no_further c.args.loaded.now _ (place c.args.turn.now c.args.here) _ _ _ _
    (c.in-Ok.ensures.instruction ∙ ap (λ l. decode_row l c.args.here.program_counter c.args.row)
    (c.memory-memory.ensures ∙ ap memory_of c.store.ensures)
    ∙ ap (λ row. decode_row (memory_of c.args.store.now.store) c.args.here.program_counter row) c.requires.row) c.in_err-operand_values.ensures.went)

pub perform_further-performed-requires-clause-store : goal.perform_further-performed-requires-clause-store
perform_further-performed-requires-clause-store c = went_store c.requires.store c.in_ok-operand_values.ensures.went

pub perform_further-performed-requires-clause-dynamic : goal.perform_further-performed-requires-clause-dynamic
perform_further-performed-requires-clause-dynamic c = c.requires.dynamic
    ∙ sym (base_kept _ _ c.in_ok-operand_values.ensures.went.did.0)

pub perform_further-performed-requires-clause-enough : goal.perform_further-performed-requires-clause-enough
perform_further-performed-requires-clause-enough c =
    let long = length-take-le c.in-Ok.read.0 c.operand_values.new.values
    (omega (arith, c.in-Ok.ensures.few, c.operand_values.array_long)) in
    let enough : (row_of c.args.operation).least_operands ≤ c.in-Ok.read.0 =
    subst (λ (row : OpcodeRow). row.least_operands ≤ c.in-Ok.read.0) c.requires.row c.in-Ok.ensures.enough in
    omega (arith, long, enough)

pub returns-clause-told : goal.returns-clause-told
returns-clause-told c = executes_further _ c.args.loaded.now _ (place c.args.turn.now c.args.here) _ _ _ _
    (c.in-Ok.ensures.instruction ∙ ap (λ l. decode_row l c.args.here.program_counter c.args.row)
    (c.memory-memory.ensures ∙ ap memory_of c.store.ensures)
    ∙ ap (λ row. decode_row (memory_of c.args.store.now.store) c.args.here.program_counter row) c.requires.row)
    c.in_ok-operand_values.ensures.went
    c.perform_further-performed.ensures.told

pub returns-in_err-operand_values-clause-picture : goal.returns-in_err-operand_values-clause-picture
returns-in_err-operand_values-clause-picture c =
    redraws_none _ _ c.args.version (Some c.args.operation) (place c.args.turn.now c.args.here)
    (state_of c.args.store.now.store (drop c.args.start c.args.text.now.items)) _ (picture_of c.args.picture.now)
    c.from_residual.ensures.1

pub returns-clause-picture : goal.returns-clause-picture
returns-clause-picture c =
    redraws_by c.perform_further-performed.result _ c.args.version c.args.operation
    (place c.args.turn.now c.args.here)
    (state_of c.args.store.now.store (drop c.args.start c.args.text.now.items))
    (drop c.args.start c.perform_further-performed.new.text.items) _ _ (c.len.result - c.args.start) _ _ c.is_ok.ensures.value refl
    (values_read _ (drop c.args.start c.args.text.now.items) _ _ _
    (c.in-Ok.ensures.instruction ∙ ap (λ l. decode_row l c.args.here.program_counter c.args.row)
    (c.memory-memory.ensures ∙ ap memory_of c.store.ensures)
    ∙ ap (λ row. decode_row (memory_of c.args.store.now.store) c.args.here.program_counter row) c.requires.row)
    c.in_ok-operand_values.ensures.went)
    (omega (arith, c.len.ensures, length-drop c.args.start c.perform_further-performed.new.text.items)) c.redraw.ensures
