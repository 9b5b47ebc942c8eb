-- What the values of the code stand for.
use Rattle.std.specs.Prelude.{List, [], ◌∷◌, Option, Some, None, ℕ, zero, suc}
use Rattle.zcore.specs.declared.instruction.Branch.{Branch}
use Rattle.zcore.specs.declared.instruction.Operand.{Operand}
use Rattle.zcore.specs.Instruction.{Instruction}
use Rattle.code_drafts.specs.Items as items
use Rattle.code_drafts.specs.Addresses.{Addresses, Sizes}
use Rattle.code_drafts.specs.Instructions.{named_from, operands}
use Rattle.code_drafts.specs.declared.addresses.Addresses as located
use Rattle.code_drafts.specs.declared.addresses.Sizes as counted
use Rattle.code_drafts.specs.declared.instruction.Operands.{Operands}
use Rattle.code_drafts.specs.declared.instruction.Operands.TheVariants.{Zero, One, Two, Three}
use Rattle.code_drafts.specs.declared.instruction.ShortBranch.{ShortBranch}
use Rattle.code_drafts.specs.declared.instruction.Instruction as written

-- Instructions

abbrev pub operands_of : Operands → List Operand
operands_of Zero = []
operands_of (One a) = a ∷ []
operands_of (Two a b) = a ∷ b ∷ []
operands_of (Three a b c) = a ∷ b ∷ c ∷ []

abbrev pub branch_of : Option ShortBranch → Option Branch
branch_of None = None
branch_of (Some b) = Some (record { when = b.when; offset = b.offset })

abbrev pub instruction_of : written.Instruction → Instruction
instruction_of i = record {
  operation = i.operation;
  operands = operands_of i.operands;
  result = i.result;
  branch = branch_of i.branch;
}

-- the operands of an instruction from where so many are pushed before
abbrev pub named_when : ℕ → List items.Operand → List Operand
named_when zero os = operands os
named_when (suc n) os = named_from n os

-- Where code stands

abbrev pub addresses_of : located.Addresses → Addresses
addresses_of a = record {
  routines = a.routines.now;
  arrays = a.arrays.now;
  faults = a.faults.now;
}

abbrev pub sizes_in : counted.Sizes → Sizes
sizes_in s = record {
  arrays = s.arrays.now;
  objects = s.objects;
  abbreviations = s.abbreviations.now;
  singles = s.singles;
}
