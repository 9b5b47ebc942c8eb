-- A test whose outcome is pushed as 1 or 0.
use Rattle.std.proofs.Common.{◌≡◌, ℕ, ◌+◌, ◌<◌, ◌≤◌, List, ◌∷◌, length, Some, None, Bool, true, false, refl, subst}
use Rattle.std.proofs.Common.{arith}
use Rattle.std.specs.Prelude.{if◌then◌else◌, not}
use Rattle.std.specs.List.{flat_map}
use Rattle.zcore.specs.declared.instruction.Operand.{Operand}
use Rattle.zcore.specs.declared.instruction.Operation.{Operation}
use Rattle.zcore.specs.declared.next.Next.{Next}
use Rattle.zcore.specs.InstructionBytes.{bytes_of, IsEncodable}
use Rattle.zcore.specs.State.{State, done, words}
use Rattle.zcore.specs.Parts.{operand_values, branch_on}
use Rattle.zcore.specs.Execution.{perform}
use Rattle.code_drafts.specs.Instructions.{branching}
use Rattle.code_instructions.specs.Instructions.{flag}
use Rattle.code.proofs.Behind.{Holds}
use Rattle.code.proofs.Play.{Leads, moves}
use Rattle.code.proofs.Parts.{Around, machine as at_words}
use Rattle.code.proofs.Steps.{point, first_held, others_held, landing}
use Rattle.code.proofs.SingleSteps.{branch_step, flag_leads}

module _ (e : Around) (fuel : ℕ) where
  -- a branch and the flag after it
  pub test_leads : (m l s s1 t : List ℕ) (q : ℕ) (op : Operation) (operands : List Operand) (values : List ℕ)
      (when holds : Bool) → IsEncodable (branching op operands when 8)
      → operand_values operands (at_words e m l s t) ≡ done values (at_words e m l s1 t)
      → ((here : Next) (after : ℕ) (st : State)
      → perform op here after None (Some (record { when = when; offset = 8 })) values st
      ≡ branch_on here after (Some (record { when = when; offset = 8 })) holds st)
      → length l + length s1 + words e.others < 65536 → 64 ≤ q → 0 < length (bytes_of (branching op operands when 8))
      → q + length (bytes_of (branching op operands when 8)) + 9 < length m
      → Holds m q (flat_map bytes_of (branching op operands when 8 ∷ flag))
      → Leads (point q fuel) (at_words e m l s t)
      (point (q + length (bytes_of (branching op operands when 8)) + 9) fuel)
      (at_words e m l ((if (if when then holds else not holds) then 1 else 0) ∷ s1) t)
  test_leads m l s s1 t q op operands values when holds fits v is room above some within h =
      let n = q + length (bytes_of (branching op operands when 8)) in
      moves (point q fuel) (point (landing when holds n 6) fuel) (point (n + 9) fuel) (at_words e m l s t)
      (at_words e m l s1 t) _
      (branch_step e fuel m l s s1 t q 6 op operands values when holds fits v is (omega arith) above some
      (omega (arith, within)) (first_held m q (branching op operands when 8) flag h))
      (subst (λ x. Leads (point x fuel) (at_words e m l s1 t) (point (n + 9) fuel)
      (at_words e m l ((if (if when then holds else not holds) then 1 else 0) ∷ s1) t)) (lands when holds)
      (flag_leads e fuel m l s1 t n (if when then holds else not holds) room (omega (arith, above)) within
      (others_held m q (branching op operands when 8) flag h)))
    where
      lands : (w b : Bool) → (if (if w then b else not b) then (q + length (bytes_of (branching op operands when 8)))
          + 6 else q + length (bytes_of (branching op operands when 8)))
          ≡ landing w b (q + length (bytes_of (branching op operands when 8))) 6
      lands true true = refl
      lands true false = refl
      lands false true = refl
      lands false false = refl
