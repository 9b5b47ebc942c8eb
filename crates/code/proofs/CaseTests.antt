-- Cases test the word that was put aside.
use Rattle.std.proofs.Common.{◌≡◌, ℕ, suc, ◌+◌, ◌<◌, ◌≤◌, List, [], ◌∷◌, length, Option, Some, None, Bool, refl, sym}
use Rattle.std.proofs.Common.{ap, subst, arith}
use Rattle.std.specs.Prelude.{map}
use Rattle.std.specs.List.{All, flat_map}
use Rattle.std.proofs.lemmas.List.{take_all, length-map}
use Rattle.zcore.specs.declared.instruction.Operand.{Operand}
use Rattle.zcore.specs.declared.instruction.Operand.TheVariants.{Variable}
use Rattle.zcore.specs.declared.instruction.Operation.{Operation}
use Rattle.zcore.specs.InstructionBytes.{bytes_of, FitsOperand}
use Rattle.zcore.specs.State.{State, done}
use Rattle.zcore.specs.Parts.{operand_values}
use Rattle.code_drafts.specs.Items.{Item, Test}
use Rattle.code_drafts.specs.Items as items
use Rattle.code_items.specs.Laws.{IsTestedValue}
use Rattle.code_items.specs.Stack as stack
use Rattle.code_drafts.specs.Instructions.{constant, aside_variable}
use Rattle.code_instructions.specs.Instructions.{ahead_limit, most_compared, labelled, test_operation}
use Rattle.code.specs.HeldProgram.{sizes_of}
use Rattle.code.proofs.Behind.{Holds}
use Rattle.code.proofs.Play.{Leads, HoldsAside}
use Rattle.code.proofs.Parts.{machine as at_words}
use Rattle.code.proofs.Steps.{point, no_operand, variable_value, landing}
use Rattle.code.proofs.Fitting.{held_bytes}
use Rattle.code.proofs.ItemOperands.{constant_value, values_then}
use Rattle.code.proofs.Labels.{Branching, label_leads}
use Rattle.code.proofs.Places.{ends_by}
use Rattle.code.proofs.Arriving.{Running, at_aside, around, here, high, above, kept, LedFrom, code_here, ArrivesAt}
use Rattle.code.proofs.Arriving.{code_held}
use Rattle.code.proofs.Temporaries.{scratch_here}
use Rattle.code.proofs.Delivering.{reads_aside}
use Rattle.code.proofs.Alone.{next_place, plain_length}
use Rattle.code.proofs.Jumping.{is_in, short}
use Rattle.code.proofs.Tests.{labelled_fit, branching_some, TestOf, Counted, test_of}
use Rattle.code.proofs.Branching.{over, lands_led}

-- constants have their numbers
constants_value : (st : State) (ns : List ℕ) → operand_values (map constant ns) st ≡ done ns st
constants_value st [] = no_operand st
constants_value st (n ∷ ns) =
    values_then st st st (constant n) (map constant ns) n ns (constant_value st n) (constants_value st ns)

-- a word and the numbers of a case are as many operands as the instruction of its test takes
case_counted : (test : Test) (n : ℕ) → IsTestedValue test (1 + n) → 1 ≤ n → Counted test (suc n)
case_counted items.is_zero n is some = absurd (omega (arith, is, some))
case_counted items.less n is some = omega (arith, is)
case_counted items.greater n is some = omega (arith, is)
case_counted items.same n is some = (omega (arith, some), omega (arith, is.1))

few_compared : (test : Test) (n : ℕ) → IsTestedValue test (1 + n) → n ≤ 3
few_compared items.is_zero n is = omega (arith, is)
few_compared items.less n is = omega (arith, is)
few_compared items.greater n is = omega (arith, is)
few_compared items.same n is = omega (arith, is.1)

module _ (c : Running) where
  open c use {story, a, p, accepted, holds, full, m, count, counts, routine, place, callers, locals, world, good}

  pub case_led : (test : Test) (ns : List ℕ) (when : Bool) (target : ℕ) (aside : Option ℕ) (words : List ℕ)
      → IsTestedValue test (1 + length ns) → 1 ≤ length ns → length words ≤ 48 → HoldsAside story m aside
      → ArrivesAt c (items.case test ns when target)
      → LedFrom c words (stack.test_case aside test ns when target (at_aside c aside words))
  case_led test ns when target None words is some room still stands = tt
  case_led test ns when target (Some v) words is some room still stands =
      lands_led c (Some v) target words words m when (stack.holds test (v ∷ ns)) room (scratch_here c) still there
    where
      item : Item
      item = items.case test ns when target

      op : Operation
      op = test_operation test

      os : List Operand
      os = Variable aside_variable ∷ map constant ns

      d : ℕ
      d = over c target

      st : State
      st = at_words (around c) m locals words world.text

      code : code_here c item ≡ labelled op os when (2 + d)
      code = ap (λ ks. labelled op (Variable aside_variable ∷ map constant ks) when (2 + d))
          (take_all most_compared ns (few_compared test (length ns) is))

      held : Holds m (here c) (flat_map bytes_of (labelled op os when (2 + d)))
      held = subst (λ is. Holds m (here c) (flat_map bytes_of is)) code (code_held c item stands)

      fit : All FitsOperand os
      fit = labelled_fit ahead_limit op os when (2 + d)
          (held_bytes _ (here c) story m (flat_map bytes_of (labelled op os when (2 + d))) holds.byte_each (kept c)
          (high c) held)

      same_count : length (v ∷ ns) ≡ length os
      same_count = ap suc (sym (length-map ns constant))

      kinds : TestOf test os (v ∷ ns)
      kinds = test_of test os (v ∷ ns) same_count
          (subst (Counted test) same_count (case_counted test (length ns) is some))

      branching_is : Branching (around c) m locals words words world.text op os (stack.holds test (v ∷ ns))
      branching_is = record {
        values = v ∷ ns;
        fits = λ when offset small. record {
          least = kinds.least;
          most = kinds.most;
          operands_fit = fit;
          result_fits = kinds.result;
          branch_fits = kinds.branch when offset small;
        };
        some = branching_some op os;
        taken = values_then st st st (Variable aside_variable) (map constant ns) v ns
            (variable_value (around c) m locals words world.text aside_variable v (reads_aside c v still)) (constants_value st ns);
        branches = λ when offset from after. kinds.does when offset from after st;
      }

      next : next_place c ≡ here c + length (flat_map bytes_of (labelled op os when (2 + d)))
      next = omega (
        arith,
        stands.next,
        plain_length c item refl,
        ap (λ is. length (flat_map bytes_of is)) code,
      )

      within : next_place c + d < length m
      within = omega (
        arith,
        (holds.routines routine good.known).followed,
        ends_by (sizes_of p) (is_in c) target,
        ends_by (sizes_of p) (is_in c) (place + 1),
        good.stored.size,
      )

      there : Leads (point (here c) world.fuel) st
          (point (landing when (stack.holds test (v ∷ ns)) (next_place c) d) world.fuel) st
      there =
          label_leads (around c) world.fuel m locals words words world.text (here c) d op os when
          (stack.holds test (v ∷ ns)) branching_is (above c)
          (omega (arith, short c, ends_by (sizes_of p) (is_in c) target)) (next_place c) next within held
