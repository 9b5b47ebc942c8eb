-- A branch to a label leads to its target, in whatever form it is written.
use Rattle.std.proofs.Common.{◌≡◌, ℕ, ◌+◌, ◌%◌, ◌<◌, ◌≤◌, List, [], ◌∷◌, length, Some, None, Bool, true, false, refl}
use Rattle.std.proofs.Common.{sym, subst, arith, length-append}
use Rattle.std.specs.Prelude.{not, nat_lt, if◌then◌else◌}
use Rattle.std.specs.List.{flat_map}
use Rattle.std.proofs.lemmas.Bool.{lt-ltb, ltb-true}
use Rattle.zcore.specs.declared.instruction.Operand.{Operand}
use Rattle.zcore.specs.declared.instruction.Operand.TheVariants.{Large}
use Rattle.zcore.specs.declared.instruction.Operation.{Operation}
use Rattle.zcore.specs.declared.instruction.Operation.TheVariants as operations
use Rattle.zcore.specs.declared.next.Next.{Next}
use Rattle.zcore.specs.Instruction.{Instruction}
use Rattle.zcore.specs.InstructionBytes.{bytes_of, IsEncodable}
use Rattle.zcore.specs.State.{done}
use Rattle.zcore.specs.Parts.{operand_values, branch_on, jump_target}
use Rattle.zcore.specs.Execution.{perform}
use Rattle.code_drafts.specs.Instructions.{plain, branching}
use Rattle.code_instructions.specs.Instructions.{labelled}
use Rattle.code.proofs.Behind.{Holds}
use Rattle.code.proofs.Play.{Leads, stays}
use Rattle.code.proofs.Parts.{Around, machine as at_words}
use Rattle.code.proofs.Steps.{point, leads_then, one_step, first_held, others_held, landing}
use Rattle.code.proofs.SingleSteps.{branch_here_step, jump_step}

pub jump_length : (offset : ℕ) → length (bytes_of (plain operations.Jump (Large offset ∷ []))) ≡ 3
unfolding bytes_of
jump_length offset = refl

-- where a jump leads whose offset is 2 and more
jump_leads : (after d : ℕ) → d < 32100 → jump_target after (2 + d) ≡ after + d
jump_leads after d h =
    let a : nat_lt (2 + d) 32768 ≡ true = lt-ltb _ _ (omega (arith, h)) in
    rw a (omega arith)

-- What a branch asks of its operands: they can be written with any branch, and the operation then branches by a
-- condition.
pub record Branching (e : Around) (m l s s1 t : List ℕ) (op : Operation) (os : List Operand) (holds : Bool) : Type 0
  where
    pub values : List ℕ
    pub fits : (when : Bool) (offset : ℕ) → offset < 16384 → IsEncodable (branching op os when offset)
    pub some : (when : Bool) (offset : ℕ) → 0 < length (bytes_of (branching op os when offset))
    pub taken : operand_values os (at_words e m l s t) ≡ done values (at_words e m l s1 t)
    pub branches : (when : Bool) (offset : ℕ) (here : Next) (after : ℕ)
        → perform op here after None (Some (record { when = when; offset = offset })) values (at_words e m l s1 t)
        ≡ branch_on here after (Some (record { when = when; offset = offset })) holds (at_words e m l s1 t)

module _ (e : Around) (fuel : ℕ) (m l s s1 t : List ℕ) (q d : ℕ) (op : Operation) (os : List Operand)
    (when holds : Bool) (b : Branching e m l s s1 t op os holds) (above : 64 ≤ q) (near : d < 32100) where
  -- the branch itself
  short : d < 8190 → q + length (bytes_of (branching op os when (2 + d))) + d < length m
      → Holds m q (flat_map bytes_of (branching op os when (2 + d) ∷ []))
      → Leads (point q fuel) (at_words e m l s t)
      (point (landing when holds (q + length (bytes_of (branching op os when (2 + d)))) d) fuel) (at_words e m l s1 t)
  short few within h =
      let i = branching op os when (2 + d) in
      one_step (point q fuel) (point (landing when holds (q + length (bytes_of i)) d) fuel) (at_words e m l s t)
      (at_words e m l s1 t)
      (branch_here_step e fuel m l s s1 t q d op os b.values when holds (b.fits when (2 + d) (omega (arith, few)))
      b.taken
      (λ after. b.branches when (2 + d) (point q fuel) after) few above (b.some when (2 + d)) within
      (first_held m q i [] h))

  -- the opposite branch, over a jump: where it comes to, and where the whole does
  far : (w c : Bool) (after : ℕ) → Leads (point after fuel) (at_words e m l s1 t) (point (after + 3 + d) fuel)
      (at_words e m l s1 t)
      → Leads (point (landing (not w) c after 3) fuel) (at_words e m l s1 t) (point (landing w c (after + 3) d) fuel)
      (at_words e m l s1 t)
  far true true after jump = jump
  far true false after jump = stays (point (after + 3) fuel) (at_words e m l s1 t)
  far false true after jump = stays (point (after + 3) fuel) (at_words e m l s1 t)
  far false false after jump = jump

  long : q + length (bytes_of (branching op os (not when) 5)) + 3 + d < length m
      → Holds m q (flat_map bytes_of (branching op os (not when) 5 ∷ plain operations.Jump (Large (2 + d) ∷ []) ∷ []))
      → Leads (point q fuel) (at_words e m l s t)
      (point (landing when holds (q + length (bytes_of (branching op os (not when) 5)) + 3) d) fuel)
      (at_words e m l s1 t)
  long within h =
      let i = branching op os (not when) 5 in
      let j = plain operations.Jump (Large (2 + d) ∷ []) in
      let after = q + length (bytes_of i) in
      let st = at_words e m l s1 t in
      let first = branch_here_step e fuel m l s s1 t q 3 op os b.values (not when) holds
      (b.fits (not when) 5 (omega arith))
      b.taken (λ after. b.branches (not when) 5 (point q fuel) after) (omega arith) above (b.some (not when) 5)
      (omega (arith, within))
      (first_held m q i (j ∷ []) h) in
      let leads = jump_leads (after + 3) d near in
      let jump = jump_step e fuel m l s1 t after (2 + d) (after + 3 + d) (omega (arith, near)) leads
      (omega (arith, above)) (omega arith) within (first_held m after j [] (others_held m q i (j ∷ []) h)) in
      leads_then (point q fuel) (point (landing (not when) holds after 3) fuel)
      (point (landing when holds (after + 3) d) fuel) (at_words e m l s t) st st
      (one_step (point q fuel) (point (landing (not when) holds after 3) fuel) (at_words e m l s t) st first)
      (far when holds after (one_step (point after fuel) (point (after + 3 + d) fuel) st st jump))

  -- in every form
  pub label_leads : (next : ℕ) → next ≡ q + length (flat_map bytes_of (labelled op os when (2 + d)))
      → next + d < length m → Holds m q (flat_map bytes_of (labelled op os when (2 + d)))
      → Leads (point q fuel) (at_words e m l s t) (point (landing when holds next d) fuel) (at_words e m l s1 t)
  label_leads next is within h = go (nat_lt (2 + d) 8192) refl is h
    where
      form : Bool → List Instruction
      form c = if c then branching op os when (2 + d) ∷ [] else branching op os (not when) 5 ∷ plain operations.Jump
          (Large ((2 + d) % 65536) ∷ []) ∷ []

      go : (c : Bool) → nat_lt (2 + d) 8192 ≡ c → next ≡ q + length (flat_map bytes_of (form c))
          → Holds m q (flat_map bytes_of (form c))
          → Leads (point q fuel) (at_words e m l s t) (point (landing when holds next d) fuel) (at_words e m l s1 t)
      go true f is h =
          let i = branching op os when (2 + d) in
          let n : next ≡ q + length (bytes_of i) = omega (arith, is, length-append (bytes_of i) []) in
          subst (λ x. Leads (point q fuel) (at_words e m l s t) (point (landing when holds x d) fuel)
          (at_words e m l s1 t)) (sym n) (short (omega (arith, ltb-true _ _ f)) (omega (arith, n, within)) h)
      go false f is h =
          let i = branching op os (not when) 5 in
          let j = plain operations.Jump (Large ((2 + d) % 65536) ∷ []) in
          let n : next ≡ q + length (bytes_of i) + 3 =
          omega (
            arith,
            is,
            length-append (bytes_of i) (flat_map bytes_of (j ∷ [])),
            length-append (bytes_of j) [],
            jump_length ((2 + d) % 65536),
          ) in
          let word : (2 + d) % 65536 ≡ 2 + d = omega (arith, near) in
          let there = subst (λ (x : ℕ). Holds m q (flat_map bytes_of (i ∷ plain operations.Jump (Large x ∷ []) ∷ [])))
          word h in
          subst (λ x. Leads (point q fuel) (at_words e m l s t) (point (landing when holds x d) fuel)
          (at_words e m l s1 t)) (sym n) (long (omega (arith, n, within)) there)
