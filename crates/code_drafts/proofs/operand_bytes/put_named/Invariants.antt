use Rattle.std.proofs.Common.{◌≡◌, ◌≤◌, ◌++◌, drop}
use Rattle.code_drafts.specs.Code.{as_operands}
use Rattle.code_drafts.specs.Instructions.{operands}
use Rattle.code_drafts.specs.Written.{named_when}
use Rattle.code_drafts.proofs.operand_bytes.put_named.Given as goal

abbrev pub invariant-loop-operand : goal.invariant-loop-operand
invariant-loop-operand l =
    (l.named_before.items ++ named_when l.pushed (as_operands (drop l.operand-index l.operands))
    ≡ l.initial.named_before.items ++ operands (as_operands l.operands))
    × (l.pushed ≤ l.operand-index)
