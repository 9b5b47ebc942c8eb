use Rattle.std.proofs.Common.{ap, sym, ◌∙◌}
use Rattle.zcore.specs.Parts.{test_target, is_code, test}
use Rattle.zcore.specs.declared.place.Fault.TheVariants as faults
use Rattle.machine_frames.specs.Contents.{memory_of}
use Rattle.machine_frames.specs.States.{state_of}
use Rattle.machine_frames.proofs.Steps.{went_still, went_halt}
use Rattle.machine_opcodes.proofs.jumps.test_target.Goals as goal

pub returns-then-is_code : goal.returns-then-is_code
unfolding test_target
returns-then-is_code c =
    let e = ap (λ m. is_code m c.args.target) (sym (c.memory.ensures ∙ ap memory_of c.store.ensures))
    ∙ sym c.is_code.ensures ∙ c.if-is_code.true in
    went_still _ _ c.requires (λ t. ap (λ b. test b faults.Code (state_of c.args.store.now.store t)) e)

pub returns-else-is_code : goal.returns-else-is_code
unfolding test_target
returns-else-is_code c =
    let e = ap (λ m. is_code m c.args.target) (sym (c.memory.ensures ∙ ap memory_of c.store.ensures))
    ∙ sym c.is_code.ensures ∙ c.if-is_code.false in
    went_halt _ _ c.requires (λ t. ap (λ b. test b faults.Code (state_of c.args.store.now.store t)) e)
