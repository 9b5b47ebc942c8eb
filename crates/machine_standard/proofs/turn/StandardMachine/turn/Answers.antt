use Rattle.std.proofs.Common.{◌≡◌, length, sym, ◌∙◌, ap, arith, take}
use Rattle.machine.proofs.Turning.{ends_without}
use Rattle.machine_standard.proofs.Whole.{store_remains}
use Rattle.machine_standard.proofs.turn.StandardMachine.turn.Goals as goal

pub returns-then-is_err-clause-ends : goal.returns-then-is_err-clause-ends
returns-then-is_err-clause-ends c =
    let start : c.len-start.result ≡ length c.args.text.now.items = omega arith in
    ends_without _ _ (sym c.is_err.ensures.value ∙ c.if-is_err.true)
    (c.truncate.ensures.items ∙ ap (λ n. take n c.turn_on-ended.new.text.items) start ∙ c.turn_on-ended.ensures.ends.front)
    c.turn_on-ended.ensures.ends

pub returns-else-is_err-clause-store : goal.returns-else-is_err-clause-store
returns-else-is_err-clause-store c = store_remains _ _ _ _ c.requires.store c.turn_on-ended.ensures.ends.goes_on
