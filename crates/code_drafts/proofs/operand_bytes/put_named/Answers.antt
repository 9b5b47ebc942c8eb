use Rattle.std.proofs.Common.{arith}
use Rattle.code_drafts.specs.declared.item.Operand.TheVariants.{Pushed}
use Rattle.code_drafts.proofs.Naming.{named_on}
use Rattle.code_drafts.proofs.operand_bytes.put_named.Goals as goal

pub loop-operand-preserved : goal.loop-operand-preserved
loop-operand-preserved c = (
  named_on c.args.operands.now c.loop-operand.operand-index Pushed c.loop-operand.pushed c.pushed_one-pushed.result
      c.loop-operand.named_before.items c.push.new.self.items _ c.named.result
      c.loop-operand-test.true c.loop-operand.invariant.0 c.in_ok-push.ensures.items c.named.ensures
      c.pushed_one-pushed.ensures.value,
  omega (arith, c.loop-operand.invariant.1, c.pushed_one-pushed.ensures.few),
)
