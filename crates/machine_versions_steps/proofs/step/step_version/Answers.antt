use Rattle.std.proofs.Common.{◌<◌, ◌∙◌, ap, sym, subst, length, ℕ, List, arith}
use Rattle.std.proofs.lemmas.List.{length-take-le}
use Rattle.zcore_standard.specs.Instruction.{decode_row}
use Rattle.zcore_versions.specs.Versions.{versioned}
use Rattle.machine_frames.specs.Contents.{memory_of}
use Rattle.machine_frames.proofs.Steps.{went_store}
use Rattle.machine_standard_windows.specs.TurnState.{place}
use Rattle.machine_versions_steps.proofs.Stepping.{decodes_no_version, executes_version, reads_no_version}
use Rattle.machine_versions_steps.proofs.Stepping.{told_err_seen}
use Rattle.machine_versions_steps.proofs.step.step_version.Goals as goal

pub decode_row-requires-clause-within : goal.decode_row-requires-clause-within
decode_row-requires-clause-within c =
    subst (λ (l : List ℕ). c.args.here.program_counter < length l)
    (sym (c.memory-memory.ensures ∙ ap memory_of c.store.ensures)) c.requires.within

pub returns-in-Err-clause-told : goal.returns-in-Err-clause-told
returns-in-Err-clause-told c = decodes_no_version _ (versioned c.args.loaded.now c.args.version) _
    (place c.args.turn.now c.args.here) _ _ c.requires.store.sound
    (c.in-Err.ensures.instruction ∙ ap (λ l. decode_row l c.args.here.program_counter c.args.row)
    (c.memory-memory.ensures ∙ ap memory_of c.store.ensures)
    ∙ ap (λ row. decode_row (memory_of c.args.store.now.store) c.args.here.program_counter row) c.requires.row)

pub returns-in_err-operand_values-clause-told : goal.returns-in_err-operand_values-clause-told
returns-in_err-operand_values-clause-told c = told_err_seen (place c.args.turn.now) _ c.from_residual.ensures.1
    (reads_no_version (versioned c.args.loaded.now c.args.version) _ (place c.args.turn.now c.args.here) _ _ _ _
    (c.in-Ok.ensures.instruction ∙ ap (λ l. decode_row l c.args.here.program_counter c.args.row)
    (c.memory-memory.ensures ∙ ap memory_of c.store.ensures)
    ∙ ap (λ row. decode_row (memory_of c.args.store.now.store) c.args.here.program_counter row) c.requires.row)
    c.in_err-operand_values.ensures.went)

pub perform-requires-clause-store : goal.perform-requires-clause-store
perform-requires-clause-store c = went_store c.requires.store c.in_ok-operand_values.ensures.went

pub perform-requires-clause-here : goal.perform-requires-clause-here
perform-requires-clause-here c = omega (arith, c.requires.within, c.requires.store.sound.short)

pub perform-requires-clause-few : goal.perform-requires-clause-few
perform-requires-clause-few c =
    let long = length-take-le c.in-Ok.read.0 c.operand_values.new.values
    (omega (arith, c.in-Ok.ensures.few, c.operand_values.array_long)) in
    omega (arith, long, c.in-Ok.ensures.few)

pub returns-clause-told : goal.returns-clause-told
returns-clause-told c = executes_version _ (versioned c.args.loaded.now c.args.version) _
    (place c.args.turn.now c.args.here) _ _ _ _
    (c.in-Ok.ensures.instruction ∙ ap (λ l. decode_row l c.args.here.program_counter c.args.row)
    (c.memory-memory.ensures ∙ ap memory_of c.store.ensures)
    ∙ ap (λ row. decode_row (memory_of c.args.store.now.store) c.args.here.program_counter row) c.requires.row)
    c.in_ok-operand_values.ensures.went
    c.perform.ensures.told
