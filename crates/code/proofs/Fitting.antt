-- Instructions whose bytes stand in a story: each number fits its bytes.
use Rattle.std.proofs.Common.{◌≡◌, ℕ, suc, ◌<◌, ◌≤◌, List, [], ◌∷◌, ◌++◌, length, take, drop, sym, ap, ◌∙◌, subst}
use Rattle.std.proofs.Common.{arith}
use Rattle.std.specs.List.{All, flat_map}
use Rattle.std.proofs.lemmas.List.Elements.{All-take, All-drop}
use Rattle.zcore.specs.declared.instruction.Operand.{Operand}
use Rattle.zcore.specs.declared.instruction.Operand.TheVariants.{Large, Small, Variable}
use Rattle.zcore.specs.Operations.{count_of, number_of, has_more_types, least_operands, most_operands, has_result}
use Rattle.zcore.specs.Operations.{has_branch}
use Rattle.zcore.specs.Instruction.{Instruction}
use Rattle.zcore.specs.InstructionBytes.{opcode_bytes, operand_bytes, result_bytes, branch_bytes, bytes_of, FitsOperand}
use Rattle.zcore.specs.InstructionBytes.{FitsResult, FitsBranch, IsEncodable}
use Rattle.code.proofs.Behind.{Holds}
use Rattle.code.proofs.Regions.{same_on}
use Rattle.code.proofs.Steps.{fits_none, fits_more}

abbrev pub AreBytes : List ℕ → Type 0
AreBytes [] = Unit {0}
AreBytes (b ∷ bs) = (b < 256) × AreBytes bs

pub first_part : (xs ys : List ℕ) → AreBytes (xs ++ ys) → AreBytes xs
first_part [] ys h = tt
first_part (x ∷ xs) ys h = (h.0, first_part xs ys h.1)

second_part : (xs ys : List ℕ) → AreBytes (xs ++ ys) → AreBytes ys
second_part [] ys h = h
second_part (x ∷ xs) ys h = second_part xs ys h.1

from_all : (bs : List ℕ) → All (λ b. b < 256) bs → AreBytes bs
from_all [] h = tt
from_all (b ∷ bs) h = (h 0 b (omega arith), from_all bs (λ k d l. h (suc k) d (omega (arith, l))))

-- what stands in a story is bytes
pub held_bytes : (base q : ℕ) (story memory bs : List ℕ) → All (λ b. b < 256) story
    → drop base memory ≡ drop base story
    → base ≤ q → Holds memory q bs → AreBytes bs
held_bytes base q story memory bs all kept high h =
    from_all bs
    (subst (All (λ b. b < 256)) (sym (ap (take (length bs)) (same_on base q story memory kept high)) ∙ h.1)
    (All-take (λ b. b < 256) (length bs) (drop q story) (All-drop (λ b. b < 256) q story all)))

operand_fits : (o : Operand) → AreBytes (operand_bytes o) → FitsOperand o
operand_fits (Large n) h = omega (arith, h.0)
operand_fits (Small n) h = h.0
operand_fits (Variable n) h = h.0

operands_fit : (os : List Operand) → AreBytes (flat_map operand_bytes os) → All FitsOperand os
operands_fit [] h = fits_none
operands_fit (o ∷ os) h =
    fits_more o os (operand_fits o (first_part (operand_bytes o) (flat_map operand_bytes os) h))
    (operands_fit os (second_part (operand_bytes o) (flat_map operand_bytes os) h))

-- the operands of an instruction whose bytes are bytes
pub all_fit : (i : Instruction) → AreBytes (bytes_of i) → All FitsOperand i.operands
unfolding bytes_of
all_fit i h =
    let code = opcode_bytes (count_of i.operation) (number_of i.operation) (has_more_types i.operation) i.operands in
    let given = flat_map operand_bytes i.operands in
    let a = first_part (code ++ given ++ result_bytes i.result) (branch_bytes i.branch) h in
    let b = first_part (code ++ given) (result_bytes i.result) a in
    operands_fit i.operands (second_part code given b)

-- what is asked of an instruction beside its operands
pub record Shaped (i : Instruction) : Type 0 where
  pub least : least_operands i.operation ≤ length i.operands
  pub most : length i.operands ≤ most_operands i.operation
  pub result_fits : FitsResult (has_result i.operation) i.result
  pub branch_fits : FitsBranch (has_branch i.operation) i.branch

pub encodable : (i : Instruction) → Shaped i → AreBytes (bytes_of i) → IsEncodable i
encodable i s h = record {
  least = s.least;
  most = s.most;
  operands_fit = all_fit i h;
  result_fits = s.result_fits;
  branch_fits = s.branch_fits;
}
