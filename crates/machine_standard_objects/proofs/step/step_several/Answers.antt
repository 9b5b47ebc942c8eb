use Rattle.std.proofs.Common.{ap, ◌∙◌, ◌+◌}
use Rattle.zcore.specs.Instruction.{variable_form}
use Rattle.machine_frames.specs.Contents.{memory_of}
use Rattle.machine_frames.proofs.Steps.{told_err, told_went, told_then, went_store, went_no_further}
use Rattle.machine_decoding.specs.Decoded.{completed}
use Rattle.machine_standard_objects.proofs.Characters.{small_character_told}
use Rattle.machine_standard_objects.proofs.Stepping.{told_halts, told_executes}
use Rattle.machine_standard_objects.proofs.step.step_several.Goals as goal

pub several-requires-clause-store : goal.several-requires-clause-store
several-requires-clause-store c = went_store c.requires.store c.in_ok-operand_values.ensures.went

pub returns-in-Some-clause-told : goal.returns-in-Some-clause-told
returns-in-Some-clause-told c =
    told_executes c.args.loaded.now _ c.args.here _
    (λ l. completed l (variable_form l c.args.first (c.args.here.program_counter + 1))) _ _
    (c.memory-memory.ensures ∙ ap memory_of c.store.ensures) c.in-Some.ensures.read
    (small_character_told c.args.loaded.now _ c.args.here _ _ c.requires.store.sound c.print_character.ensures.told)

pub returns-in-Err-clause-told : goal.returns-in-Err-clause-told
returns-in-Err-clause-told c = told_halts c.args.loaded.now _ _ c.args.here _
    (λ l. completed l (variable_form l c.args.first (c.args.here.program_counter + 1))) _ c.requires.store.sound
    (c.memory-memory.ensures ∙ ap memory_of c.store.ensures) c.in-Err.ensures.instruction

pub returns-in_err-operand_values-clause-told : goal.returns-in_err-operand_values-clause-told
returns-in_err-operand_values-clause-told c =
    told_err _ c.from_residual.ensures.1
    (told_executes c.args.loaded.now _ c.args.here _
    (λ l. completed l (variable_form l c.args.first (c.args.here.program_counter + 1))) _ _
    (c.memory-memory.ensures ∙ ap memory_of c.store.ensures) c.in-Ok.ensures.instruction
    (told_went _ _ (went_no_further _ c.in_err-operand_values.ensures.went)))

pub returns-clause-told : goal.returns-clause-told
returns-clause-told c =
    told_executes c.args.loaded.now _ c.args.here _
    (λ l. completed l (variable_form l c.args.first (c.args.here.program_counter + 1)))
    _ _ (c.memory-memory.ensures ∙ ap memory_of c.store.ensures) c.in-Ok.ensures.instruction
    (told_then _ (told_went _ _ c.in_ok-operand_values.ensures.went) c.several.ensures.told)
