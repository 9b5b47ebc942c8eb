-- How many bytes instructions and their operands have.
use Rattle.std.proofs.Common.{◌≡◌, ◌≤◌, ◌+◌, ◌-◌, ◌*◌, ◌==◌, ℕ, Bool, true, false, List, [], ◌∷◌, ◌++◌, length, ap}
use Rattle.std.proofs.Common.{arith, length-append, append-nil}
use Rattle.std.specs.Prelude.{nat_lt, if◌then◌else◌}
use Rattle.std.specs.List.{flat_map}
use Rattle.zcore.specs.declared.instruction.Operand.{Operand}
use Rattle.zcore.specs.declared.instruction.Operand.TheVariants.{Large, Small}
use Rattle.zcore.specs.declared.operations.OperandCount.{OperandCount}
use Rattle.zcore.specs.declared.operations.OperandCount.TheVariants.{Two, One, Zero, Several}
use Rattle.zcore.specs.Operations.{count_of, number_of, has_more_types}
use Rattle.zcore.specs.Instruction.{Instruction}
use Rattle.zcore.specs.InstructionBytes.{type_of, opcode_bytes, operand_bytes, result_bytes, branch_bytes, bytes_of}
use Rattle.code_drafts.specs.Items as items
use Rattle.code_drafts.specs.Instructions.{in_place, constant, pushed_count, named_from, operands, takes}
use Rattle.code_drafts.specs.Bytes.{bytes_of_all}
use Rattle.code.proofs.Taking.{pulls_length}

-- Instructions

either_few : (b c : Bool) (xs ys zs : List ℕ) (n : ℕ) → length xs ≤ n → length ys ≤ n → length zs ≤ n
    → length (if b then xs else (if c then ys else zs)) ≤ n
either_few true c xs ys zs n h k l = h
either_few false true xs ys zs n h k l = k
either_few false false xs ys zs n h k l = l

pub opcode_few : (k : OperandCount) (n : ℕ) (os : List Operand) → length (opcode_bytes k n false os) ≤ 2
opcode_few Two n [] = omega arith
opcode_few Two n (o ∷ []) = omega arith
opcode_few Two n (o ∷ p ∷ []) =
    either_few (type_of o == 0) (type_of p == 0) _ _ _ 2 (omega arith) (omega arith) (omega arith)
opcode_few Two n (o ∷ p ∷ q ∷ os) = omega arith
opcode_few One n [] = omega arith
opcode_few One n (o ∷ []) = omega arith
opcode_few One n (o ∷ p ∷ os) = omega arith
opcode_few Zero n os = omega arith
opcode_few Several n os = omega arith

pub opcode_most : (k : OperandCount) (n : ℕ) (b : Bool) (os : List Operand) → length (opcode_bytes k n b os) ≤ 3
opcode_most k n false os = omega (arith, opcode_few k n os)
opcode_most Two n true [] = omega arith
opcode_most Two n true (o ∷ []) = omega arith
opcode_most Two n true (o ∷ p ∷ []) =
    either_few (type_of o == 0) (type_of p == 0) _ _ _ 3 (omega arith) (omega arith) (omega arith)
opcode_most Two n true (o ∷ p ∷ q ∷ os) = omega arith
opcode_most One n true [] = omega arith
opcode_most One n true (o ∷ []) = omega arith
opcode_most One n true (o ∷ p ∷ os) = omega arith
opcode_most Zero n true os = omega arith
opcode_most Several n true os = omega arith

abbrev pub operand_count : List Operand → ℕ
operand_count os = length (flat_map operand_bytes os)

pub parts_length : (i : Instruction)
    → length (bytes_of i) ≡ length (opcode_bytes (count_of i.operation) (number_of i.operation)
    (has_more_types i.operation) i.operands) + operand_count i.operands + length (result_bytes i.result)
    + length (branch_bytes i.branch)
unfolding bytes_of
parts_length i =
    let code = opcode_bytes (count_of i.operation) (number_of i.operation) (has_more_types i.operation) i.operands in
    let given = flat_map operand_bytes i.operands in
    omega (
      arith,
      length-append (code ++ given ++ result_bytes i.result) (branch_bytes i.branch),
      length-append (code ++ given) (result_bytes i.result),
      length-append code given,
    )

-- an instruction with at most four operands
pub few_bytes : (i : Instruction) → has_more_types i.operation ≡ false
    → length (bytes_of i) ≤ 2 + operand_count i.operands + length (result_bytes i.result)
    + length (branch_bytes i.branch)
few_bytes i e =
    let code : length (opcode_bytes (count_of i.operation) (number_of i.operation) (has_more_types i.operation)
    i.operands) ≡ length (opcode_bytes (count_of i.operation) (number_of i.operation) false i.operands) =
    ap (λ b. length (opcode_bytes (count_of i.operation) (number_of i.operation) b i.operands)) e in
    omega (arith, parts_length i, code, opcode_few (count_of i.operation) (number_of i.operation) i.operands)

-- Operands

pub constant_few : (b : Bool) (n : ℕ) → length (operand_bytes (if b then Small n else Large n)) ≤ 2
constant_few true n = omega arith
constant_few false n = omega arith

pub operand_few : (o : items.Operand) → length (operand_bytes (in_place o)) ≤ 2
operand_few items.pushed = omega arith
operand_few (items.number n) = constant_few (nat_lt n 256) n
operand_few (items.variable x) = omega arith

pub one_count : (o : Operand) → operand_count (o ∷ []) ≡ length (operand_bytes o)
one_count o = ap length (append-nil (operand_bytes o))

pub two_count : (o p : Operand) → operand_count (o ∷ p ∷ []) ≡ length (operand_bytes o) + length (operand_bytes p)
two_count o p = omega (arith, length-append (operand_bytes o) (flat_map operand_bytes (p ∷ [])), one_count p)

pub three_count : (o p q : Operand) → operand_count (o ∷ p ∷ q ∷ [])
    ≡ length (operand_bytes o) + length (operand_bytes p) + length (operand_bytes q)
three_count o p q =
    omega (arith, length-append (operand_bytes o) (flat_map operand_bytes (p ∷ q ∷ [])), two_count p q)

named_few : (n : ℕ) (os : List items.Operand) → operand_count (named_from n os) + 3 * pushed_count os ≤ 4 * length os
named_few n [] = omega arith
named_few n (items.pushed ∷ os) = let more = named_few (n + 1) os in omega (arith, more)
named_few n (items.number k ∷ os) = let more = named_few n os in
    omega (
      arith,
      more,
      length-append (operand_bytes (constant k)) (flat_map operand_bytes (named_from n os)),
      constant_few (nat_lt k 256) k,
    )
named_few n (items.variable x ∷ os) = let more = named_few n os in omega (arith, more)

-- what takes operands, and they themselves
pub taken_few : (os : List items.Operand)
    → operand_count (operands os) + length (bytes_of_all (takes os)) ≤ 4 * length os
taken_few os = omega (arith, go os, pulls_length (pushed_count os - 1))
  where
    go : (os : List items.Operand) → operand_count (operands os) + 3 * (pushed_count os - 1) ≤ 4 * length os
    go [] = omega arith
    go (items.pushed ∷ os) = let more = named_few 0 os in omega (arith, more)
    go (items.number k ∷ os) = let more = go os in
        omega (
          arith,
          more,
          length-append (operand_bytes (constant k)) (flat_map operand_bytes (operands os)),
          constant_few (nat_lt k 256) k,
        )
    go (items.variable x ∷ os) = let more = go os in omega (arith, more)
