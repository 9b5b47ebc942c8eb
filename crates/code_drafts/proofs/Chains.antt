-- Bytes that follow one another make up the bytes of a whole.
use Rattle.std.proofs.Common.{◌≡◌, ℕ, List, [], ◌∷◌, ◌++◌, refl, sym, ap, ◌∙◌, append_assoc, append-nil}
use Rattle.std.specs.List.{flat_map}
use Rattle.code_drafts.specs.Bytes.{bytes_of_all}
use Rattle.zcore.specs.Operations.{count_of, number_of, has_more_types}
use Rattle.zcore.specs.Instruction.{Instruction}
use Rattle.zcore.specs.InstructionBytes.{opcode_bytes, operand_bytes, result_bytes, branch_bytes, bytes_of}

pub instruction_joined : (i : Instruction) (b b1 b2 b3 b4 : List ℕ)
    → b1 ≡ b ++ opcode_bytes (count_of i.operation) (number_of i.operation) (has_more_types i.operation) i.operands
    → b2 ≡ b1 ++ flat_map operand_bytes i.operands → b3 ≡ b2 ++ result_bytes i.result
    → b4 ≡ b3 ++ branch_bytes i.branch
    → b4 ≡ b ++ bytes_of i
unfolding bytes_of
instruction_joined i b b1 b2 b3 b4 e1 e2 e3 e4 =
    e4 ∙ ap (λ z. z ++ branch_bytes i.branch) (e3
    ∙ ap (λ z. z ++ result_bytes i.result) (e2 ∙ ap (λ z. z ++ flat_map operand_bytes i.operands) e1))
    ∙ simp append_assoc

pub all_append : (xs ys : List Instruction) → bytes_of_all (xs ++ ys) ≡ bytes_of_all xs ++ bytes_of_all ys
all_append [] ys = refl
all_append (x ∷ xs) ys =
    ap (λ z. bytes_of x ++ z) (all_append xs ys) ∙ sym (append_assoc (bytes_of x) (bytes_of_all xs) (bytes_of_all ys))

-- two lists of instructions
pub all_joined : (xs ys : List Instruction) (b b1 b2 : List ℕ) → b1 ≡ b ++ bytes_of_all xs
    → b2 ≡ b1 ++ bytes_of_all ys
    → b2 ≡ b ++ bytes_of_all (xs ++ ys)
all_joined xs ys b b1 b2 e1 e2 = e2 ∙ ap (λ z. z ++ bytes_of_all ys) e1
    ∙ append_assoc b (bytes_of_all xs) (bytes_of_all ys) ∙ ap (λ z. b ++ z) (sym (all_append xs ys))

-- three lists of instructions
pub three_joined : (xs ys zs : List Instruction) (b b1 b2 b3 : List ℕ) → b1 ≡ b ++ bytes_of_all xs
    → b2 ≡ b1 ++ bytes_of_all ys → b3 ≡ b2 ++ bytes_of_all zs → b3 ≡ b ++ bytes_of_all (xs ++ (ys ++ zs))
three_joined xs ys zs b b1 b2 b3 e1 e2 e3 =
    all_joined xs (ys ++ zs) b b1 b3 e1 (all_joined ys zs b1 b2 b3 e2 e3)

-- a list of instructions, and one more
pub one_joined : (xs : List Instruction) (i : Instruction) (b b1 b2 : List ℕ) → b1 ≡ b ++ bytes_of_all xs
    → b2 ≡ b1 ++ bytes_of i → b2 ≡ b ++ bytes_of_all (xs ++ i ∷ [])
one_joined xs i b b1 b2 e1 e2 =
    all_joined xs (i ∷ []) b b1 b2 e1 (e2 ∙ ap (λ z. b1 ++ z) (sym (append-nil (bytes_of i))))

-- one instruction
pub one_there : (i : Instruction) (b b1 : List ℕ) → b1 ≡ b ++ bytes_of i → b1 ≡ b ++ bytes_of_all (i ∷ [])
one_there i b b1 e = e ∙ ap (λ z. b ++ z) (sym (append-nil (bytes_of i)))

-- one instruction, and then another
pub two_there : (i j : Instruction) (b b1 b2 : List ℕ) → b1 ≡ b ++ bytes_of i → b2 ≡ b1 ++ bytes_of_all (j ∷ [])
    → b2 ≡ b ++ bytes_of_all (i ∷ j ∷ [])
two_there i j b b1 b2 e f =
    f ∙ ap (λ z. z ++ bytes_of_all (j ∷ [])) e ∙ append_assoc b (bytes_of i) (bytes_of_all (j ∷ []))
