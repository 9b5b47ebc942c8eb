use Rattle.std.proofs.Common.{ap, ◌∙◌, ◌+◌}
use Rattle.zcore.specs.Instruction.{short_form}
use Rattle.machine_frames.specs.Contents.{memory_of}
use Rattle.machine_frames.proofs.Steps.{told_err, told_went, told_then, went_store, went_no_further}
use Rattle.machine_decoding.specs.Decoded.{completed}
use Rattle.machine_standard_objects.proofs.Stepping.{told_halts, told_executes}
use Rattle.machine_steps.proofs.Stepping.{one_value, first_stops}
use Rattle.machine_standard_objects.proofs.step.step_short.Goals as goal

pub one-requires-clause-store : goal.one-requires-clause-store
one-requires-clause-store c = went_store c.requires.store c.in_ok-x.ensures

pub returns-in-Err-clause-told : goal.returns-in-Err-clause-told
returns-in-Err-clause-told c = told_halts c.args.loaded.now _ _ c.args.here _
    (λ l. completed l (short_form c.args.first (c.args.here.program_counter + 1))) _ c.requires.store.sound
    (c.memory.ensures ∙ ap memory_of c.store.ensures) c.in-Err.ensures.instruction

pub returns-in_err-x-clause-told : goal.returns-in_err-x-clause-told
returns-in_err-x-clause-told c =
    told_err _ c.from_residual.ensures.1
    (told_executes c.args.loaded.now _ c.args.here _
    (λ l. completed l (short_form c.args.first (c.args.here.program_counter + 1)))
    _ _ (c.memory.ensures ∙ ap memory_of c.store.ensures) c.in-Ok.ensures.instruction
    (told_went _ _ (went_no_further _ (first_stops _ _ c.in_err-x.ensures))))

pub returns-clause-told : goal.returns-clause-told
returns-clause-told c = told_executes c.args.loaded.now _ c.args.here _
    (λ l. completed l (short_form c.args.first (c.args.here.program_counter + 1))) _ _
    (c.memory.ensures ∙ ap memory_of c.store.ensures) c.in-Ok.ensures.instruction
    (told_then _ (told_went _ _ (one_value _ c.in_ok-x.ensures)) c.one.ensures.told)
