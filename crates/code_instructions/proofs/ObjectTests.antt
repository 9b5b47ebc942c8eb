-- The tests of objects, and what is done after them.
use Rattle.std.proofs.Common.{◌≡◌, ℕ, ◌+◌, Bool, true, false, List, [], ◌++◌, Option, Some, None, refl, ap, ◌∙◌}
use Rattle.std.proofs.Common.{append_assoc, subst}
use Rattle.std.specs.Prelude.{if◌then◌else◌}
use Rattle.zcore.specs.declared.instruction.Operand.{Operand}
use Rattle.zcore.specs.Instruction.{Instruction}
use Rattle.meaning.specs.declared.cause.Cause.{Cause}
use Rattle.meaning.specs.declared.cause.Cause.TheVariants.{NotAnObject}
use Rattle.code_drafts.specs.Items as items
use Rattle.code_drafts.specs.Addresses.{Addresses, fault_address}
use Rattle.code_drafts.specs.Instructions.{pulled_into, fail, constant}
use Rattle.code_instructions.specs.Instructions.{is_between}
use Rattle.code_drafts.specs.Bytes.{bytes_of_all}
use Rattle.code_instructions.specs.ObjectCode.{tests_in, tested_in, at_object}
use Rattle.code_instructions.specs.Written.{found_in}
use Rattle.code_drafts.proofs.Chains.{all_joined, three_joined}

-- what is done with what stands for an operand
abbrev pub acted : Option Operand → (Operand → List Instruction) → List Instruction
acted None act = []
acted (Some x) act = act x

-- a test, and what is done after it
pub tested_is : (n : ℕ) (a : Addresses) (cause : Cause) (low end : ℕ) (o : items.Operand)
    (act : Operand → List Instruction)
    → tests_in n a cause low end o ++ acted (found_in n low end o) act ≡ tested_in n a cause low end o act
tested_is n a cause low end items.pushed act = refl
tested_is n a cause low end (items.number i) act = go (is_between low end i)
  where
    go : (b : Bool)
        → (if b then [] else fail (fault_address a cause)) ++ acted (if b then Some (constant i) else None) act
        ≡ (if b then act (constant i) else fail (fault_address a cause))
    go true = refl
    go false = refl
tested_is n a cause low end (items.variable x) act = refl

-- after one instruction and the tests of an object that is in a temporary where it was pushed
module _ (n : ℕ) (a : Addresses) (objects : ℕ) (o : items.Operand) (act : Operand → List Instruction) where
  pub target_joined : (before : List Instruction) (b b1 b2 b3 : List ℕ) (x : Operand) → b1 ≡ b ++ bytes_of_all before
      → b2 ≡ b1 ++ bytes_of_all (tests_in n a NotAnObject 1 (objects + 1) o)
      → Some x ≡ found_in n 1 (objects + 1) o → b3 ≡ b2 ++ bytes_of_all (act x)
      → b3 ≡ b ++ bytes_of_all (before ++ tested_in n a NotAnObject 1 (objects + 1) o act)
  target_joined before b b1 b2 b3 x e1 e2 found e3 =
      three_joined before (tests_in n a NotAnObject 1 (objects + 1) o) (acted (found_in n 1 (objects + 1) o) act)
      b b1 b2 b3 e1 e2 (subst (λ y. b3 ≡ b2 ++ bytes_of_all (acted y act)) found e3)
      ∙ ap (λ z. b ++ bytes_of_all (before ++ z)) (tested_is n a NotAnObject 1 (objects + 1) o act)

module _ (a : Addresses) (objects : ℕ) (o : items.Operand) (act : Operand → List Instruction) where
  abbrev taken : List Instruction
  taken = pulled_into 0 o ++ tests_in 0 a NotAnObject 1 (objects + 1) o

  at_is : taken ++ acted (found_in 0 1 (objects + 1) o) act ≡ at_object a objects o act
  at_is =
      append_assoc (pulled_into 0 o) (tests_in 0 a NotAnObject 1 (objects + 1) o)
      (acted (found_in 0 1 (objects + 1) o) act)
      ∙ ap (λ z. pulled_into 0 o ++ z) (tested_is 0 a NotAnObject 1 (objects + 1) o act)

  -- after the tests of an object
  pub found_joined : (b b1 b2 : List ℕ) (x : Operand) → b1 ≡ b ++ bytes_of_all taken
      → Some x ≡ found_in 0 1 (objects + 1) o → b2 ≡ b1 ++ bytes_of_all (act x)
      → b2 ≡ b ++ bytes_of_all (at_object a objects o act)
  found_joined b b1 b2 x e1 found e2 =
      all_joined taken (acted (found_in 0 1 (objects + 1) o) act) b b1 b2 e1
      (subst (λ y. b2 ≡ b1 ++ bytes_of_all (acted y act)) found e2)
      ∙ ap (λ z. b ++ bytes_of_all z) at_is
