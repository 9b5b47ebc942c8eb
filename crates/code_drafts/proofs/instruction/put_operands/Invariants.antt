use Rattle.std.proofs.Common.{◌≡◌, ◌++◌, drop}
use Rattle.std.specs.List.{flat_map}
use Rattle.zcore.specs.InstructionBytes.{operand_bytes}
use Rattle.code_drafts.proofs.instruction.put_operands.Given as goal

abbrev pub invariant-loop-operand : goal.invariant-loop-operand
invariant-loop-operand l =
    l.bytes.items ++ flat_map operand_bytes (drop l.operand-index l.operands)
    ≡ l.initial.bytes.items ++ flat_map operand_bytes l.operands
