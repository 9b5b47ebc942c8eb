-- What of an instruction a machine refuses with M1.
use Rattle.std.specs.Prelude.{◌≡◌, ◌&&◌, ℕ, nat_le, Bool, true, false, List, Option, Some, None, IfSome}
use Rattle.std.specs.Prelude.{Result, Ok, Err}
use Rattle.zcore.specs.declared.place.Fault.{Fault}
use Rattle.zcore.specs.declared.place.Fault.TheVariants as faults
use Rattle.zcore.specs.declared.instruction.Operation.{Operation}
use Rattle.zcore.specs.declared.operations.OpcodeRow.{OpcodeRow}
use Rattle.zcore.specs.Operations.{row_of}
use Rattle.ztext.specs.Results.{◌>>=◌}
use Rattle.zcore_standard.specs.declared.opcode.Opcode.{Opcode}
use Rattle.zcore_standard.specs.declared.opcodes.Action.{Action}
use Rattle.zcore_standard.specs.Instruction.{row_types, counted}
use Rattle.zcore_standard.specs.Operations as table
use Rattle.zcore_standard.specs.Operations.{profile_of}
use Rattle.survey.specs.declared.refusal.Refusal.{Refusal}
use Rattle.survey.specs.declared.refusal.Refusal.TheVariants as refusals

-- the machine refuses what is decoded so
abbrev pub is_refused : {X : Type 0} → Result X Fault → Bool
is_refused (Err faults.Opcode) = true
is_refused _ = false

abbrev pub is_said : Option Refusal → Bool
is_said (Some refusal) = true
is_said None = false

-- whether an opcode with a row takes so many operands
abbrev pub takes : OpcodeRow → ℕ → Bool
takes row count = nat_le row.least_operands count && nat_le count row.most_operands

-- the types of the operands at an address, as many as the opcode's row says
abbrev pub counted_at : List ℕ → ℕ → OpcodeRow → Result (List ℕ × ℕ) Fault
counted_at story at row = row_types story at row >>= λ types. counted row types

-- what can be refused of the operands of an opcode with a row: a number that it does not take, or a gap
abbrev pub IsOperandsRefusal : OpcodeRow → Refusal → Type 0
IsOperandsRefusal row refusals.Opcode = ⊥
IsOperandsRefusal row (refusals.Operands count) = takes row count ≡ false
IsOperandsRefusal row refusals.Gap = Unit {0}

-- of an opcode outside the profile the profile's machine refuses the opcode, of any other the operands
abbrev pub IsRefusalBy : Option Operation → Refusal → Type 0
IsRefusalBy None refusal = refusal ≡ refusals.Opcode
IsRefusalBy (Some operation) refusal = IsOperandsRefusal (row_of operation) refusal

-- of an operation that the profile does not have something is refused exactly if its operands are not as its row says
abbrev pub SaysOfOperands : List ℕ → ℕ → Option Refusal → Opcode → Type 0
SaysOfOperands story at refusal opcode = IfSome (table.standard_of opcode)
    (λ operation. is_said refusal ≡ is_refused (counted_at story at (table.row_of operation)))

-- Of an opcode that does this in a version the operands are refused exactly if they are not as its row says; of one that
-- the version does not have the opcode is.
abbrev pub SaysOfVersion : List ℕ → ℕ → Option (Action × OpcodeRow) → Option Refusal → Type 0
SaysOfVersion story at None refusal = refusal ≡ Some refusals.Opcode
SaysOfVersion story at (Some x) refusal = is_said refusal ≡ is_refused (counted_at story at x.1)

abbrev pub IsProfileRefusal : Opcode → Refusal → Type 0
IsProfileRefusal opcode refusal = IsRefusalBy (profile_of opcode) refusal
