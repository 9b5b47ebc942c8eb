use Rattle.std.proofs.Common.{ap, sym, ◌∙◌}
use Rattle.zcore.specs.Parts.{is_code}
use Rattle.machine_frames.specs.Contents.{memory_of}
use Rattle.machine_frames.proofs.Leaving.{Backs, returns_none, back_stopped, back_outside, back_went}
use Rattle.machine_frames.proofs.Steps.{went_err}
use Rattle.machine_frames.proofs.calls.test_return.Goals as goal

pub returns-then-frames-eq1-clause-went : goal.returns-then-frames-eq1-clause-went
returns-then-frames-eq1-clause-went c = returns_none _ c.cell-frames.result c.requires c.cell-frames.ensures
    c.if-frames-eq1.true

pub returns-in_err-test_caller-clause-went : goal.returns-in_err-test_caller-clause-went
returns-in_err-test_caller-clause-went c =
    let backs : Backs c.args.store.now.store c.cell-frames.result c.running-record.result
    c.long-return_address.result c.cell.result c.variable_in-result_variable.result = record {
      count = c.cell-frames.ensures;
      called = c.if-frames-eq1.false;
      running = c.running-record.ensures;
      address_read = c.long-return_address.ensures;
      variable_read = c.cell.ensures;
      result_read = c.variable_in-result_variable.ensures;
    } in
    went_err _ c.from_residual.ensures.1 (back_stopped _ _ _ _ _ _ _ c.requires backs c.in_err-test_caller.ensures)

pub returns-then-not-is_code-clause-went : goal.returns-then-not-is_code-clause-went
returns-then-not-is_code-clause-went c =
    let memory = c.memory.ensures ∙ ap memory_of c.store.ensures in
    let backs : Backs c.args.store.now.store c.cell-frames.result c.running-record.result
    c.long-return_address.result c.cell.result c.variable_in-result_variable.result = record {
      count = c.cell-frames.ensures;
      called = c.if-frames-eq1.false;
      running = c.running-record.ensures;
      address_read = c.long-return_address.ensures;
      variable_read = c.cell.ensures;
      result_read = c.variable_in-result_variable.ensures;
    } in
    back_outside _ _ _ _ _ _ c.requires backs c.in_ok-test_caller.ensures
    (ap (λ m. is_code m c.long-return_address.result) (sym memory) ∙ sym c.is_code.ensures
    ∙ c.if-not-is_code.true)

pub returns-clause-went : goal.returns-clause-went
returns-clause-went c =
    let memory = c.memory.ensures ∙ ap memory_of c.store.ensures in
    let backs : Backs c.args.store.now.store c.cell-frames.result c.running-record.result
    c.long-return_address.result c.cell.result c.variable_in-result_variable.result = record {
      count = c.cell-frames.ensures;
      called = c.if-frames-eq1.false;
      running = c.running-record.ensures;
      address_read = c.long-return_address.ensures;
      variable_read = c.cell.ensures;
      result_read = c.variable_in-result_variable.ensures;
    } in
    back_went _ _ _ _ _ _ c.requires backs c.in_ok-test_caller.ensures
    (ap (λ m. is_code m c.long-return_address.result) (sym memory) ∙ sym c.is_code.ensures
    ∙ c.if-not-is_code.false)
