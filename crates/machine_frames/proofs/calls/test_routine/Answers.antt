use Rattle.std.proofs.Common.{ap, sym, ◌∙◌, slice_index}
use Rattle.zcore.specs.Parts.{is_code}
use Rattle.machine_frames.specs.Contents.{memory_of}
use Rattle.machine_frames.proofs.Entering.{routine_outside, routine_bad, routine_full, routine_fits}
use Rattle.machine_frames.proofs.calls.test_routine.Goals as goal

pub returns-then-not-is_code-clause-went : goal.returns-then-not-is_code-clause-went
returns-then-not-is_code-clause-went c =
    let memory = c.memory-memory.ensures ∙ ap memory_of c.store.ensures in
    routine_outside _ c.args.routine c.requires
    (ap (λ m. is_code m c.args.routine) (sym memory) ∙ sym c.is_code.ensures ∙ c.if-not-is_code.true)

pub returns-then-locals-gt15-clause-went : goal.returns-then-locals-gt15-clause-went
returns-then-locals-gt15-clause-went c =
    let memory = c.memory-memory.ensures ∙ ap memory_of c.store.ensures in
    routine_bad _ c.args.routine _ c.requires
    (ap (λ m. is_code m c.args.routine) (sym memory) ∙ sym c.is_code.ensures ∙ c.if-not-is_code.false)
    (ap (λ m. slice_index m c.args.routine) memory) c.if-locals-gt15.true

pub returns-then-height-locals-gt-STACK_SIZE-clause-went : goal.returns-then-height-locals-gt-STACK_SIZE-clause-went
returns-then-height-locals-gt-STACK_SIZE-clause-went c =
    let memory = c.memory-memory.ensures ∙ ap memory_of c.store.ensures in
    routine_full _ c.args.routine _ c.height.result c.requires
    (ap (λ m. is_code m c.args.routine) (sym memory) ∙ sym c.is_code.ensures ∙ c.if-not-is_code.false)
    (ap (λ m. slice_index m c.args.routine) memory) c.if-locals-gt15.false
    c.height.ensures.same c.if-height-locals-gt-STACK_SIZE.true

pub returns-clause-went : goal.returns-clause-went
returns-clause-went c =
    let memory = c.memory-memory.ensures ∙ ap memory_of c.store.ensures in
    routine_fits _ c.args.routine _ c.height.result c.requires
    (ap (λ m. is_code m c.args.routine) (sym memory) ∙ sym c.is_code.ensures ∙ c.if-not-is_code.false)
    (ap (λ m. slice_index m c.args.routine) memory) c.if-locals-gt15.false
    c.height.ensures.same c.if-height-locals-gt-STACK_SIZE.false
