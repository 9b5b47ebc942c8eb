use Rattle.std.proofs.Common.{◌≡◌, drop}
use Rattle.code_drafts.specs.Items as items
use Rattle.code_drafts.specs.Code.{as_operands}
use Rattle.code_drafts.proofs.operand.are_more_pushed.Given as goal

abbrev pub invariant-loop-number : goal.invariant-loop-number
invariant-loop-number l = items.are_more_pushed (as_operands l.operands)
    ≡ items.are_more_pushed (as_operands (drop l.number l.operands))
