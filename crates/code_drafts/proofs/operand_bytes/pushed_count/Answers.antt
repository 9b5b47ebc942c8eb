use Rattle.std.proofs.Common.{arith}
use Rattle.code_drafts.specs.declared.item.Operand.TheVariants.{Pushed}
use Rattle.code_drafts.proofs.Naming.{counted_on}
use Rattle.code_drafts.proofs.operand_bytes.pushed_count.Goals as goal

pub loop-operand-preserved : goal.loop-operand-preserved
loop-operand-preserved c = (
  counted_on c.args.operands.now c.loop-operand.operand-index Pushed c.loop-operand.count c.pushed_one-count.result _
      c.loop-operand-test.true c.loop-operand.invariant.0 c.pushed_one-count.ensures.value,
  omega (arith, c.loop-operand.invariant.1, c.pushed_one-count.ensures.few),
)
