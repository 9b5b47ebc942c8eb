-- What the rows of the code's table say.
use Rattle.std.specs.Prelude.{ℕ, Option, Some, None}
use Rattle.zcore.specs.declared.instruction.Operation.{Operation}
use Rattle.zcore.specs.declared.operations.OpcodeRow.{OpcodeRow}
use Rattle.zcore.specs.Operations as profile
use Rattle.zcore_standard.specs.declared.opcodes.Action.{Action}
use Rattle.zcore_standard.specs.declared.opcodes.Action.TheVariants.{Profile, Standard, Older}
use Rattle.zcore_standard.specs.declared.opcodes.Row.{Row}
use Rattle.zcore_standard.specs.declared.operations.StandardOperation.{StandardOperation}
use Rattle.zcore_standard.specs.OlderOpcodes.{first_version, first_version_of, older_row_of}
use Rattle.zcore_standard.specs.Operations.{row_of}

-- an operation with its row of the definition
abbrev pub with_row : Option StandardOperation → Option (StandardOperation × OpcodeRow)
with_row None = None
with_row (Some operation) = Some (operation, row_of operation)

-- what an opcode does in a version, and its operands with what follows them
abbrev pub row_in : ℕ → Action → OpcodeRow
row_in version (Profile operation) = profile.row_of operation
row_in version (Standard operation) = row_of operation
row_in version (Older operation) = older_row_of version operation

abbrev pub said_by : ℕ → Option Action → Option (Action × OpcodeRow)
said_by version None = None
said_by version (Some action) = Some (action, row_in version action)

-- the same by a row of the code
abbrev pub said_in : Option Row → Option (Action × OpcodeRow)
said_in None = None
said_in (Some row) = Some (row.action, row.shape)

-- the first version that has an opcode, with the same
abbrev pub says : Option Row → Option (ℕ × (Action × OpcodeRow))
says None = None
says (Some row) = Some (row.since, (row.action, row.shape))

abbrev pub newest : Option Operation → Option StandardOperation → Option (ℕ × (Action × OpcodeRow))
newest other (Some operation) = Some (first_version_of operation, (Standard operation, row_of operation))
newest (Some operation) None = Some (first_version operation, (Profile operation, profile.row_of operation))
newest None None = None
