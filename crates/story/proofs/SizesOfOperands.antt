-- How many bytes the tests of an operand have, with what is done after them.
use Rattle.std.proofs.Common.{◌≡◌, ◌≤◌, ◌+◌, ℕ, Bool, true, false, List, [], ◌∷◌, ◌++◌, length, refl, ap, arith}
use Rattle.std.proofs.Common.{length-append}
use Rattle.std.specs.Prelude.{nat_lt, if◌then◌else◌}
use Rattle.std.specs.List.{flat_map}
use Rattle.zcore.specs.declared.instruction.Operand.{Operand}
use Rattle.zcore.specs.declared.instruction.Operand.TheVariants.{Large, Small, Variable}
use Rattle.zcore.specs.declared.instruction.Operation.{Operation}
use Rattle.zcore.specs.declared.instruction.Operation.TheVariants as operations
use Rattle.zcore.specs.Operations.{count_of, number_of, has_more_types}
use Rattle.zcore.specs.Instruction.{Instruction}
use Rattle.zcore.specs.InstructionBytes.{opcode_bytes, operand_bytes, bytes_of}
use Rattle.code_drafts.specs.declared.layout.Form.TheVariants as form
use Rattle.code_drafts.specs.declared.layout.Form.{Form}
use Rattle.code_drafts.specs.Layout.{size_with}
use Rattle.meaning.specs.declared.cause.Cause.{Cause}
use Rattle.code_drafts.specs.Items.{Destination}
use Rattle.code_drafts.specs.Items as items
use Rattle.code_drafts.specs.Addresses.{fault_address}
use Rattle.code_drafts.specs.Instructions as spec
use Rattle.code_drafts.specs.Instructions.{plain, giving, constant, fail, branching, pull, pulled_into, word_in}
use Rattle.code_instructions.specs.Instructions.{labelled, is_between, tested_between}
use Rattle.code_drafts.specs.Bytes.{bytes_of_all}
use Rattle.code_instructions.specs.ObjectCode.{tests_in, tested_in, at_tested, passed_on}
use Rattle.code.specs.Bytes.{no_addresses}
use Rattle.code.proofs.AddressLengths.{all_length, one_length}
use Rattle.code.proofs.BranchLengths.{labelled_length, beside}
use Rattle.story.proofs.SizesOfInstructions.{opcode_few, operand_count, few_bytes, constant_few, one_count}
use Rattle.story.proofs.SizesOfInstructions.{two_count}

-- Instructions of one operand or two

pub giving_few : (op : Operation) (a b : Operand) (v : ℕ) → has_more_types op ≡ false
    → length (bytes_of (giving op (a ∷ b ∷ []) v)) ≤ 3 + length (operand_bytes a) + length (operand_bytes b)
giving_few op a b v e = omega (arith, few_bytes (giving op (a ∷ b ∷ []) v) e, two_count a b)

pub plain_few : (op : Operation) (o : Operand) → has_more_types op ≡ false
    → length (bytes_of (plain op (o ∷ []))) ≤ 2 + length (operand_bytes o)
plain_few op o e = omega (arith, few_bytes (plain op (o ∷ [])) e, one_count o)

pub store_few : (v : ℕ) (o : Operand) → length (operand_bytes o) ≤ 2
    → length (bytes_of (plain operations.Store (Small v ∷ o ∷ []))) ≤ 5
store_few v o h = omega (arith, few_bytes (plain operations.Store (Small v ∷ o ∷ [])) refl, two_count (Small v) o)

pub fail_size : (n : ℕ) → length (bytes_of_all (fail n)) ≡ 4
unfolding bytes_of
fail_size n = refl

pub either_all : (b : Bool) (xs ys : List Instruction) (n : ℕ) → length (bytes_of_all xs) ≤ n
    → length (bytes_of_all ys) ≤ n
    → length (bytes_of_all (if b then xs else ys)) ≤ n
either_all true xs ys n h k = h
either_all false xs ys n h k = k

-- a pushed operand in a temporary

pulled_few : (v : ℕ) → length (bytes_of_all (pull v ∷ [])) ≤ 3
unfolding bytes_of
pulled_few v = omega arith

pub pulled_into_few : (n : ℕ) (o : items.Operand) → length (bytes_of_all (pulled_into n o)) ≤ 3
pulled_into_few n items.pushed = pulled_few (spec.temporary n)
pulled_into_few n (items.number k) = omega arith
pulled_into_few n (items.variable x) = omega arith

pub word_in_few : (n : ℕ) (o : items.Operand) → length (operand_bytes (word_in n o)) ≤ 2
word_in_few n items.pushed = omega arith
word_in_few n (items.number k) = constant_few (nat_lt k 256) k
word_in_few n (items.variable x) = omega arith

pub passed_few : (d : Destination) (word : Operand) → length (operand_bytes word) ≤ 2
    → length (bytes_of_all (passed_on d word)) ≤ 5
passed_few items.push word h = omega
    (arith, one_length (spec.push word), plain_few operations.Push word refl, h)
passed_few (items.into x) word h = omega
    (arith, one_length (spec.store (spec.number_of x) word), store_few (spec.number_of x) word h)
passed_few items.aside word h =
    omega (arith, one_length (spec.store spec.aside_variable word), store_few spec.aside_variable word h)
passed_few items.nowhere word h = omega arith

-- Tests

tests_few : (b : Bool) (low end v text : ℕ) → length (bytes_of_all (
    branching operations.JumpIfLess (Variable v ∷ Small low ∷ []) true (if b then 6 else 8)
    ∷ branching operations.JumpIfLess (Variable v ∷ (if b then Small end else Large end) ∷ []) true 6
    ∷ fail text)) ≤ 14
unfolding bytes_of
tests_few true low end v text = omega arith
tests_few false low end v text = omega arith

-- what is done with an operand has at most so many bytes
abbrev pub FewAt : (Operand → List Instruction) → ℕ → Type 0
FewAt act n = (i : Operand) → length (operand_bytes i) ≤ 2 → length (bytes_of_all (act i)) ≤ n

-- an operand that is tested
module _ (cause : Cause) (low end : ℕ) where
  pub between_few : (v : ℕ) → length (bytes_of_all (tested_between no_addresses cause low end v)) ≤ 14
  between_few v = tests_few (nat_lt end 256) low end v (fault_address no_addresses cause)

  behind_few : (v : ℕ) (act : Operand → List Instruction) (n : ℕ) → FewAt act n
      → length (bytes_of_all (tested_between no_addresses cause low end v ++ act (Variable v))) ≤ 14 + n
  behind_few v act n h = omega (
    arith,
    all_length (tested_between no_addresses cause low end v) (act (Variable v)),
    between_few v,
    h (Variable v) (omega arith),
  )

  pub in_few : (m : ℕ) (o : items.Operand) (act : Operand → List Instruction) (n : ℕ) → FewAt act n
      → length (bytes_of_all (tested_in m no_addresses cause low end o act)) ≤ 14 + n
  in_few m items.pushed act n h = behind_few (spec.temporary m) act n h
  in_few m (items.number i) act n h =
      let text = fault_address no_addresses cause in
      either_all (is_between low end i) (act (constant i)) (fail text) (14 + n)
      (omega (arith, h (constant i) (constant_few (nat_lt i 256) i))) (omega (arith, fail_size text))
  in_few m (items.variable x) act n h = behind_few (spec.number_of x) act n h

  pub at_few : (o : items.Operand) (act : Operand → List Instruction) (n : ℕ) → FewAt act n
      → length (bytes_of_all (at_tested no_addresses cause low end o act)) ≤ 17 + n
  at_few o act n h = omega (
    arith,
    all_length (pulled_into 0 o) (tested_in 0 no_addresses cause low end o act),
    pulled_into_few 0 o,
    in_few 0 o act n h,
  )

  pub tests_in_few : (m : ℕ) (o : items.Operand)
      → length (bytes_of_all (tests_in m no_addresses cause low end o)) ≤ 14
  tests_in_few m items.pushed = between_few (spec.temporary m)
  tests_in_few m (items.number i) =
      let text = fault_address no_addresses cause in
      either_all (is_between low end i) [] (fail text) 14 (omega arith) (omega (arith, fail_size text))
  tests_in_few m (items.variable x) = between_few (spec.number_of x)

-- Labels

pub label_few : (f : Form) → size_with f ≤ 4
label_few form.One = omega arith
label_few form.Two = omega arith
label_few form.Far = omega arith

pub beside_few : (op : Operation) (os : List Operand) → has_more_types op ≡ false → beside op os ≤ 2 + operand_count os
beside_few op os more =
    let code = opcode_bytes (count_of op) (number_of op) (has_more_types op) os in
    let given = flat_map operand_bytes os in
    let e : length code ≡ length (opcode_bytes (count_of op) (number_of op) false os) =
    ap (λ b. length (opcode_bytes (count_of op) (number_of op) b os)) more in
    omega (
      arith,
      e,
      opcode_few (count_of op) (number_of op) os,
      length-append code given,
      length-append (code ++ given) [],
    )

-- a branch of the shortest form
pub labelled_few : (op : Operation) (os : List Operand) (when : Bool) → has_more_types op ≡ false
    → length (bytes_of_all (labelled op os when 2)) ≤ 3 + operand_count os
labelled_few op os when more = omega (arith, labelled_length op os when 2, beside_few op os more)
