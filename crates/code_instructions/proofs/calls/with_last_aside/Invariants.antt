use Rattle.std.proofs.Common.{◌≡◌, ◌++◌, drop}
use Rattle.code_drafts.specs.Code.{as_operands}
use Rattle.code_instructions.specs.Instructions.{with_last_aside}
use Rattle.code_instructions.proofs.calls.with_last_aside.Given as goal

abbrev pub invariant-loop-number : goal.invariant-loop-number
invariant-loop-number l = as_operands l.named.items ++ with_last_aside (as_operands (drop l.number l.operands))
    ≡ with_last_aside (as_operands l.operands)
