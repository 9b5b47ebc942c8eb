use Rattle.std.proofs.Common.{◌≡◌, ◌≤◌, ◌+◌, drop}
use Rattle.code_drafts.specs.Code.{as_operands}
use Rattle.code_drafts.specs.Instructions.{pushed_count}
use Rattle.code_drafts.proofs.operand_bytes.pushed_count.Given as goal

abbrev pub invariant-loop-operand : goal.invariant-loop-operand
invariant-loop-operand l = (l.count + pushed_count (as_operands (drop l.operand-index l.operands))
    ≡ pushed_count (as_operands l.operands)) × (l.count ≤ l.operand-index)
