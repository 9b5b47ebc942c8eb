-- The opcode of an operation is read back from its bytes.
use Rattle.std.proofs.Common.{◌≡◌, ◌≢◌, ℕ, ◌+◌, ◌%◌, ◌<◌, ◌≤◌, List, [], ◌∷◌, map, length, refl, sym, arith, subst}
use Rattle.std.proofs.Common.{false, Some, Ok}
use Rattle.std.proofs.lemmas.Bool.{lt-ltb, le-ltb}
use Rattle.zcore.specs.declared.instruction.Operation.{Operation}
use Rattle.zcore.specs.declared.instruction.Operation.TheVariants as operations
use Rattle.zcore.specs.declared.instruction.Operand.{Operand}
use Rattle.zcore.specs.declared.instruction.Operand.TheVariants.{Large, Small, Variable}
use Rattle.ztext.specs.Text.{Holds}
use Rattle.zcore.specs.declared.operations.OperandCount.{OperandCount}
use Rattle.zcore.specs.declared.operations.OperandCount.TheVariants as counts
use Rattle.zcore.specs.Operations.{two_operand, one_operand, no_operand, several_operand, count_of, number_of}
use Rattle.zcore.specs.Operations.{least_operands, most_operands, has_more_types}
use Rattle.zcore.specs.Instruction.{opcode}
use Rattle.zcore.specs.InstructionBytes.{type_of, two_bytes, opcode_bytes}
use Rattle.zcore.proofs.EncodingParts.{room, none_is, one_is, long_is, VariableIs, variable_is}

-- an operation has its number in the table of its count, and takes as many operands as that count allows
abbrev IsNumbered : OperandCount → ℕ → Operation → Type 0
IsNumbered counts.Two number operation = (number < 32) × (two_operand number ≡ Some operation)
    × (most_operands operation ≤ 4) × (has_more_types operation ≡ false)
IsNumbered counts.One number operation = (number < 16) × (one_operand number ≡ Some operation)
    × (1 ≤ least_operands operation) × (most_operands operation ≤ 1)
IsNumbered counts.Zero number operation = (number < 16) × (number ≢ 14) × (no_operand number ≡ Some operation)
    × (most_operands operation ≤ 0)
IsNumbered counts.Several number operation = (number < 32) × (several_operand number ≡ Some operation)
    × (most_operands operation ≤ room (has_more_types operation))

-- one line for each operation
numbered : (operation : Operation) → IsNumbered (count_of operation) (number_of operation) operation
numbered operations.JumpIfEqual = (omega arith, refl, omega arith, refl)
numbered operations.JumpIfLess = (omega arith, refl, omega arith, refl)
numbered operations.JumpIfGreater = (omega arith, refl, omega arith, refl)
numbered operations.DecrementCheck = (omega arith, refl, omega arith, refl)
numbered operations.IncrementCheck = (omega arith, refl, omega arith, refl)
numbered operations.JumpIfIn = (omega arith, refl, omega arith, refl)
numbered operations.TestBits = (omega arith, refl, omega arith, refl)
numbered operations.Or = (omega arith, refl, omega arith, refl)
numbered operations.And = (omega arith, refl, omega arith, refl)
numbered operations.TestAttribute = (omega arith, refl, omega arith, refl)
numbered operations.SetAttribute = (omega arith, refl, omega arith, refl)
numbered operations.ClearAttribute = (omega arith, refl, omega arith, refl)
numbered operations.Store = (omega arith, refl, omega arith, refl)
numbered operations.InsertObject = (omega arith, refl, omega arith, refl)
numbered operations.LoadWord = (omega arith, refl, omega arith, refl)
numbered operations.LoadByte = (omega arith, refl, omega arith, refl)
numbered operations.GetProperty = (omega arith, refl, omega arith, refl)
numbered operations.GetPropertyAddress = (omega arith, refl, omega arith, refl)
numbered operations.GetNextProperty = (omega arith, refl, omega arith, refl)
numbered operations.Add = (omega arith, refl, omega arith, refl)
numbered operations.Sub = (omega arith, refl, omega arith, refl)
numbered operations.Mul = (omega arith, refl, omega arith, refl)
numbered operations.Div = (omega arith, refl, omega arith, refl)
numbered operations.Mod = (omega arith, refl, omega arith, refl)
numbered operations.Call2s = (omega arith, refl, omega arith, refl)
numbered operations.Call2n = (omega arith, refl, omega arith, refl)
numbered operations.JumpIfZero = (omega arith, refl, omega arith, omega arith)
numbered operations.GetSibling = (omega arith, refl, omega arith, omega arith)
numbered operations.GetChild = (omega arith, refl, omega arith, omega arith)
numbered operations.GetParent = (omega arith, refl, omega arith, omega arith)
numbered operations.GetPropertyLength = (omega arith, refl, omega arith, omega arith)
numbered operations.Increment = (omega arith, refl, omega arith, omega arith)
numbered operations.Decrement = (omega arith, refl, omega arith, omega arith)
numbered operations.PrintAddress = (omega arith, refl, omega arith, omega arith)
numbered operations.Call1s = (omega arith, refl, omega arith, omega arith)
numbered operations.RemoveObject = (omega arith, refl, omega arith, omega arith)
numbered operations.PrintObject = (omega arith, refl, omega arith, omega arith)
numbered operations.Return = (omega arith, refl, omega arith, omega arith)
numbered operations.Jump = (omega arith, refl, omega arith, omega arith)
numbered operations.PrintPacked = (omega arith, refl, omega arith, omega arith)
numbered operations.Load = (omega arith, refl, omega arith, omega arith)
numbered operations.Call1n = (omega arith, refl, omega arith, omega arith)
numbered operations.ReturnTrue = (omega arith, omega arith, refl, omega arith)
numbered operations.ReturnFalse = (omega arith, omega arith, refl, omega arith)
numbered operations.Print = (omega arith, omega arith, refl, omega arith)
numbered operations.PrintReturn = (omega arith, omega arith, refl, omega arith)
numbered operations.DoNothing = (omega arith, omega arith, refl, omega arith)
numbered operations.ReturnPopped = (omega arith, omega arith, refl, omega arith)
numbered operations.Quit = (omega arith, omega arith, refl, omega arith)
numbered operations.NewLine = (omega arith, omega arith, refl, omega arith)
numbered operations.CallVs = (omega arith, refl, omega arith)
numbered operations.StoreWord = (omega arith, refl, omega arith)
numbered operations.StoreByte = (omega arith, refl, omega arith)
numbered operations.PutProperty = (omega arith, refl, omega arith)
numbered operations.Read = (omega arith, refl, omega arith)
numbered operations.PrintCharacter = (omega arith, refl, omega arith)
numbered operations.PrintNumber = (omega arith, refl, omega arith)
numbered operations.Push = (omega arith, refl, omega arith)
numbered operations.Pull = (omega arith, refl, omega arith)
numbered operations.CallVs2 = (omega arith, refl, omega arith)
numbered operations.Not = (omega arith, refl, omega arith)
numbered operations.CallVn = (omega arith, refl, omega arith)
numbered operations.CallVn2 = (omega arith, refl, omega arith)
numbered operations.CheckArgumentCount = (omega arith, refl, omega arith)

-- an opcode of count 2OP in variable form is read back
two_variable : (memory : List ℕ) (at number : ℕ) (operation : Operation) (os : List Operand)
    → IsNumbered counts.Two number operation → least_operands operation ≤ length os
    → length os ≤ most_operands operation → VariableIs memory at (192 + number) operation os false
two_variable memory at number operation os n least most =
    let first = 192 + number in
    let below = n.0 in
    let few = n.2 in
    let low : first % 32 ≡ number = omega arith in
    let within : most_operands operation ≤ room (has_more_types operation) = subst
    (λ more. most_operands operation ≤ room more) (sym n.3) few in
    subst (VariableIs memory at first operation os) n.3
    (variable_is memory at first operation os (omega arith) (rw (lt-ltb first 224 (omega arith), low) n.1) within
    least most)

-- what is to be shown of an opcode of count 2OP
abbrev TwoIs : List ℕ → ℕ → ℕ → Operation → List Operand → Type 0
TwoIs memory at number operation os = Holds memory at (two_bytes number os)
    → opcode memory at
    ≡ Ok (record { operation = operation; types = map type_of os }, at + length (two_bytes number os))

-- the opcode of an operation of count 2OP is read back
two_are : (memory : List ℕ) (at number : ℕ) (operation : Operation) (os : List Operand)
    → IsNumbered counts.Two number operation → least_operands operation ≤ length os
    → length os ≤ most_operands operation → TwoIs memory at number operation os
two_are memory at number operation [] n least most h = two_variable memory at number operation [] n least most h
two_are memory at number operation (a ∷ []) n least most h = two_variable memory at number operation (a ∷ []) n least
    most h
two_are memory at number operation (Large a ∷ b ∷ []) n least most h = two_variable memory at number operation
    (Large a ∷ b ∷ []) n least most h
two_are memory at number operation (Small a ∷ Large b ∷ []) n least most h = two_variable memory at number operation
    (Small a ∷ Large b ∷ []) n least most h
two_are memory at number operation (Variable a ∷ Large b ∷ []) n least most h = two_variable memory at number
    operation (Variable a ∷ Large b ∷ []) n least most h
two_are memory at number operation (Small a ∷ Small b ∷ []) n least most h = long_is memory at number 1 1 operation
    n.0 (omega arith) (omega arith) (omega arith) (omega arith) n.1 least most h
two_are memory at number operation (Small a ∷ Variable b ∷ []) n least most h = long_is memory at number 1 2
    operation n.0 (omega arith) (omega arith) (omega arith) (omega arith) n.1 least most h
two_are memory at number operation (Variable a ∷ Small b ∷ []) n least most h = long_is memory at number 2 1
    operation n.0 (omega arith) (omega arith) (omega arith) (omega arith) n.1 least most h
two_are memory at number operation (Variable a ∷ Variable b ∷ []) n least most h = long_is memory at number 2 2
    operation n.0 (omega arith) (omega arith) (omega arith) (omega arith) n.1 least most h
two_are memory at number operation (a ∷ b ∷ c ∷ os) n least most h = two_variable memory at number operation
    (a ∷ b ∷ c ∷ os) n least most h

-- the opcode of an operation, by its count
opcode_by : (count : OperandCount) (memory : List ℕ) (at number : ℕ) (operation : Operation) (os : List Operand)
    → IsNumbered count number operation → least_operands operation ≤ length os → length os ≤ most_operands operation
    → Holds memory at (opcode_bytes count number (has_more_types operation) os)
    → opcode memory at
    ≡ Ok (
      record { operation = operation; types = map type_of os },
      at + length
          (opcode_bytes count number (has_more_types operation) os),
    )
opcode_by counts.Two memory at number operation os n least most h = two_are memory at number operation os n least
    most h
opcode_by counts.One memory at number operation [] n least most h = let some = n.2 in absurd (omega arith)
opcode_by counts.One memory at number operation (o ∷ []) n least most h = one_is memory at number operation o n.0 n.1
    least most h
opcode_by counts.One memory at number operation (o ∷ p ∷ os) n least most h = let few = n.3 in absurd (omega arith)
opcode_by counts.Zero memory at number operation [] n least most h = none_is memory at number operation n.0 n.1 n.2
    least h
opcode_by counts.Zero memory at number operation (o ∷ os) n least most h = let few = n.3 in absurd (omega arith)
opcode_by counts.Several memory at number operation os n least most h =
    let first = 224 + number in
    let below = n.0 in
    let few = n.2 in
    let low : first % 32 ≡ number = omega arith in
    variable_is memory at first operation os (omega arith) (rw (le-ltb first 224 (omega arith), low) n.1) few least
    most h

-- the opcode of an operation is read back
pub opcode_is : (memory : List ℕ) (at : ℕ) (operation : Operation) (os : List Operand)
    → least_operands operation ≤ length os → length os ≤ most_operands operation
    → Holds memory at (opcode_bytes (count_of operation) (number_of operation) (has_more_types operation) os)
    → opcode memory at
    ≡ Ok (
      record { operation = operation; types = map type_of os },
      at + length
          (opcode_bytes (count_of operation) (number_of operation) (has_more_types operation) os),
    )
opcode_is memory at operation os least most h = opcode_by (count_of operation) memory at (number_of operation)
    operation os (numbered operation) least most h
