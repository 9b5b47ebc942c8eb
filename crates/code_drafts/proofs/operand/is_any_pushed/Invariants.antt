use Rattle.std.proofs.Common.{◌≡◌, drop}
use Rattle.code_drafts.specs.Items as items
use Rattle.code_drafts.specs.Code.{as_operands}
use Rattle.code_drafts.proofs.operand.is_any_pushed.Given as goal

abbrev pub invariant-loop-operand : goal.invariant-loop-operand
invariant-loop-operand l = items.is_any_pushed (as_operands l.operands)
    ≡ items.is_any_pushed (as_operands (drop l.operand-index l.operands))
