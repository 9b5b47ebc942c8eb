-- Instructions of an item that test a word, before a fault.
use Rattle.std.proofs.Common.{◌≡◌, ℕ, ◌+◌, ◌<◌, List, ◌∷◌, ◌++◌, length, Some, None, Bool, true, false, length-append}
use Rattle.std.proofs.Common.{arith}
use Rattle.std.specs.Prelude.{not}
use Rattle.std.specs.List.{flat_map}
use Rattle.zcore.specs.declared.instruction.Operand.{Operand}
use Rattle.zcore.specs.declared.instruction.Operation.{Operation}
use Rattle.zcore.specs.Instruction.{Instruction}
use Rattle.zcore.specs.InstructionBytes.{bytes_of}
use Rattle.zcore.specs.State.{State, done}
use Rattle.zcore.specs.Parts.{operand_values, branch_on}
use Rattle.zcore.specs.Execution.{perform}
use Rattle.meaning.specs.declared.cause.Cause.{Cause}
use Rattle.code.specs.Tables.{PropertyTable}
use Rattle.code_drafts.specs.Addresses.{fault_address}
use Rattle.code_drafts.specs.Instructions.{branching, fail}
use Rattle.code.proofs.Behind.{Holds, holds_append}
use Rattle.code.proofs.Play.{Leads}
use Rattle.code.proofs.Parts.{machine as at_words}
use Rattle.code.proofs.Steps.{point, leads_then, first_held, others_held, landing}
use Rattle.code.proofs.Fitting.{Shaped}
use Rattle.code.proofs.Arriving.{Running, around, here}
use Rattle.code.proofs.Alone.{next_place}
use Rattle.code.proofs.Working.{Works, branch_leads, FailsWith}

module _ (c : Running) where
  open c use {story, a, p, accepted, holds, full, m, count, counts, routine, place, callers, locals, world, good}

  -- Tests before a fault

  -- what is after the fault, or the fault
  abbrev pub Passed : Bool → Cause → List PropertyTable → List ℕ → List ℕ → List ℕ → ℕ → List Instruction → Type 0
  Passed true cause tables before rest memory q is = Works c tables before rest memory q is
  Passed false cause tables before rest memory q is = FailsWith c cause before

  -- a branch leads over the fault where its condition is as asked
  abbrev pub asked : Bool → Bool → Bool
  asked true b = b
  asked false b = not b

  pub tests : (cause : Cause) (tables : List PropertyTable) (before rest memory : List ℕ) (q : ℕ) (op : Operation)
      (os : List Operand) (values : List ℕ) (when b : Bool) (is : List Instruction)
      → next_place c < length m → Shaped (branching op os when 6)
      → operand_values os (at_words (around c) memory locals rest world.text)
      ≡ done values (at_words (around c) memory locals rest world.text)
      → ((after : ℕ)
      → perform op (point q world.fuel) after None (Some (record { when = when; offset = 6 })) values
      (at_words (around c) memory locals rest world.text)
      ≡ branch_on (point q world.fuel) after (Some (record { when = when; offset = 6 })) b
      (at_words (around c) memory locals rest world.text))
      → 0 < length (bytes_of (branching op os when 6))
      → Works c tables before rest memory q (branching op os when 6 ∷ (fail (fault_address a cause) ++ is))
      → Passed (asked when b) cause tables before rest memory (q + length (bytes_of (branching op os when 6)) + 4) is
  unfolding bytes_of
  tests cause tables before rest memory q op os values when b is followed shaped taken performs some t =
      go when b leads
    where
      i : Instruction
      i = branching op os when 6

      k : List Instruction
      k = fail (fault_address a cause)

      behind : ℕ
      behind = q + length (bytes_of i)

      st : State
      st = at_words (around c) memory locals rest world.text

      code : Holds m behind (flat_map bytes_of (k ++ is))
      code = others_held m q i (k ++ is) t.held

      both : Holds m behind (flat_map bytes_of k) × Holds m (behind + 4) (flat_map bytes_of is)
      both = holds_append m behind (flat_map bytes_of k) (flat_map bytes_of is) code

      size : behind + 4 + length (flat_map bytes_of is) ≡ next_place c
      size = omega (arith, t.end, length-append (bytes_of i) (flat_map bytes_of (k ++ is)))

      leads : Leads (point (here c) world.fuel) (at_words (around c) m locals before world.text)
          (point (landing when b behind 4) world.fuel) st
      leads = leads_then (point (here c) world.fuel) (point q world.fuel) (point (landing when b behind 4) world.fuel)
          (at_words (around c) m locals before world.text) st st t.leads
          (branch_leads c rest memory q 4 op os values when b t.scratch t.from shaped taken performs (omega arith) some
          (omega (arith, size, followed)) (first_held m q i (k ++ is) t.held))

      passes : Leads (point (here c) world.fuel) (at_words (around c) m locals before world.text)
          (point (behind + 4) world.fuel) st → Works c tables before rest memory (behind + 4) is
      passes l = record {
        scratch = t.scratch;
        has = t.has;
        from = omega (arith, t.from);
        held = both.1;
        end = size;
        leads = l;
      }

      stops : Leads (point (here c) world.fuel) (at_words (around c) m locals before world.text)
          (point behind world.fuel) st → FailsWith c cause before
      stops l = record {
        rest = rest;
        memory = memory;
        q = behind;
        scratch = t.scratch;
        from = omega (arith, t.from);
        held = both.0;
        leads = l;
      }

      go : (w x : Bool) → Leads (point (here c) world.fuel) (at_words (around c) m locals before world.text)
          (point (landing w x behind 4) world.fuel) st
          → Passed (asked w x) cause tables before rest memory (behind + 4) is
      go true true l = passes l
      go true false l = stops l
      go false true l = stops l
      go false false l = passes l
