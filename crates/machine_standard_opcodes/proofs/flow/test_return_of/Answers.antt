use Rattle.std.proofs.Common.{ap, sym, ◌∙◌}
use Rattle.zcore.specs.Parts.{is_code}
use Rattle.machine_frames.specs.Contents.{memory_of}
use Rattle.machine_frames.proofs.Steps.{went_err}
use Rattle.machine_standard_opcodes.proofs.Returning.{backs_from, back_stopped, back_outside, back_went}
use Rattle.machine_standard_opcodes.proofs.flow.test_return_of.Goals as goal

pub returns-in_err-test_caller_of : goal.returns-in_err-test_caller_of
returns-in_err-test_caller_of c =
    let backs = backs_from c.args.store.now.store c.args.number _ _ _ c.requires.some c.requires.called
    c.long-return_address.ensures c.cell.ensures c.variable_in-result_variable.ensures in
    went_err _ c.from_residual.ensures.1 (back_stopped _ _ _ _ _ _ backs c.in_err-test_caller_of.ensures)

pub returns-then-not-is_code : goal.returns-then-not-is_code
returns-then-not-is_code c =
    let memory = c.memory.ensures ∙ ap memory_of c.store.ensures in
    let backs = backs_from c.args.store.now.store c.args.number _ _ _ c.requires.some c.requires.called
    c.long-return_address.ensures c.cell.ensures c.variable_in-result_variable.ensures in
    back_outside _ _ _ _ _ c.requires.sound backs c.in_ok-test_caller_of.ensures
    (ap (λ m. is_code m c.long-return_address.result) (sym memory) ∙ sym c.is_code.ensures
    ∙ c.if-not-is_code.true)

pub returns : goal.returns
returns c =
    let memory = c.memory.ensures ∙ ap memory_of c.store.ensures in
    let backs = backs_from c.args.store.now.store c.args.number _ _ _ c.requires.some c.requires.called
    c.long-return_address.ensures c.cell.ensures c.variable_in-result_variable.ensures in
    back_went _ _ _ _ _ c.requires.sound backs c.in_ok-test_caller_of.ensures
    (ap (λ m. is_code m c.long-return_address.result) (sym memory) ∙ sym c.is_code.ensures
    ∙ c.if-not-is_code.false)
