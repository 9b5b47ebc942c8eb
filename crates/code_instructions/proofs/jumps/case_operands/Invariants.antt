use Rattle.std.proofs.Common.{◌≡◌, ◌∷◌, ◌++◌, map, drop}
use Rattle.zcore.specs.declared.instruction.Operand.TheVariants.{Variable}
use Rattle.code_drafts.specs.Instructions.{aside_variable}
use Rattle.code_drafts.specs.Instructions.{constant}
use Rattle.code_instructions.proofs.jumps.case_operands.Given as goal

abbrev pub invariant-loop-number : goal.invariant-loop-number
invariant-loop-number l = l.operands.items ++ map constant (drop l.number-index l.number-items)
    ≡ Variable aside_variable ∷ map constant l.number-items
