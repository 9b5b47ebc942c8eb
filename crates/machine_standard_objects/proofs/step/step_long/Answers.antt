use Rattle.std.proofs.Common.{ap, ◌∙◌, ◌+◌}
use Rattle.zcore.specs.Instruction.{long_form}
use Rattle.machine_frames.specs.Contents.{memory_of}
use Rattle.machine_frames.proofs.Steps.{went_err, went_store, went_then, went_no_further}
use Rattle.machine_decoding.specs.Decoded.{completed}
use Rattle.machine_standard_objects.proofs.Stepping.{halts, executes}
use Rattle.machine_steps.proofs.Stepping.{two_values, first_stops, second_stops}
use Rattle.machine_standard_objects.proofs.step.step_long.Goals as goal

pub two-requires-clause-store : goal.two-requires-clause-store
two-requires-clause-store c = went_store (went_store c.requires c.in_ok-x.ensures) c.in_ok-y.ensures

pub operand_value-requires-2 : goal.operand_value-requires-2
operand_value-requires-2 c = went_store c.requires c.in_ok-x.ensures

pub returns-in-Err : goal.returns-in-Err
returns-in-Err c = λ loaded. halts loaded _ c.args.here _
    (λ l. completed l (long_form c.args.first (c.args.here.program_counter + 1))) _ c.requires.sound
    (c.memory.ensures ∙ ap memory_of c.store.ensures) c.in-Err.ensures.instruction

pub returns-in_err-x : goal.returns-in_err-x
returns-in_err-x c = λ loaded.
    went_err _ c.from_residual.ensures.1
    (executes loaded _ c.args.here _ (λ l. completed l (long_form c.args.first (c.args.here.program_counter + 1))) _ _
    (c.memory.ensures ∙ ap memory_of c.store.ensures) c.in-Ok.ensures.instruction
    (went_no_further _ (first_stops _ _ c.in_err-x.ensures)))

pub returns-in_err-y : goal.returns-in_err-y
returns-in_err-y c = λ loaded.
    went_err _ c.from_residual-in_err-y.ensures.1
    (executes loaded _ c.args.here _ (λ l. completed l (long_form c.args.first (c.args.here.program_counter + 1))) _ _
    (c.memory.ensures ∙ ap memory_of c.store.ensures) c.in-Ok.ensures.instruction
    (went_no_further _ (second_stops _ _ c.in_ok-x.ensures c.in_err-y.ensures)))

pub returns : goal.returns
returns c = λ loaded. executes loaded _ c.args.here _
    (λ l. completed l (long_form c.args.first (c.args.here.program_counter + 1))) _
    _ (c.memory.ensures ∙ ap memory_of c.store.ensures) c.in-Ok.ensures.instruction
    (went_then _ (two_values _ _ c.in_ok-x.ensures c.in_ok-y.ensures) (c.two.ensures loaded))
