-- The tests of a word that must lie between two numbers, as an index must, lead to what is done with it, or to a fault.
use Rattle.std.proofs.Common.{◌≡◌, ℕ, ◌+◌, ◌<◌, List, [], ◌∷◌, ◌++◌, length, Bool, true, false, sym, ◌∙◌, subst, arith}
use Rattle.std.proofs.Common.{Some}
use Rattle.std.specs.Prelude.{if◌then◌else◌}
use Rattle.std.specs.List.{flat_map}
use Rattle.zcore.specs.declared.instruction.Operand.{Operand}
use Rattle.zcore.specs.declared.instruction.Operand.TheVariants.{Variable}
use Rattle.zcore.specs.Instruction.{Instruction}
use Rattle.zcore.specs.InstructionBytes.{bytes_of}
use Rattle.meaning.specs.declared.cause.Cause.{Cause}
use Rattle.meaning.specs.declared.cause.Cause.TheVariants as causes
use Rattle.meaning.specs.World.{value_in}
use Rattle.code_drafts.specs.Items as items
use Rattle.code_drafts.specs.Addresses.{fault_address}
use Rattle.code_drafts.specs.Instructions.{constant, pull, fail, number_of, pulled_into, word_in, aside_variable}
use Rattle.code_instructions.specs.Instructions.{tested_between, is_between}
use Rattle.code.specs.ItemCode.{is_entry, at_index, tested_index}
use Rattle.code_instructions.specs.ObjectCode.{at_tested, tests_in}
use Rattle.code.proofs.Behind.{holds_append}
use Rattle.code.proofs.Play.{Leads, HoldsAside}
use Rattle.code.proofs.Memory.{word_of, with_variable}
use Rattle.code.proofs.Parts.{machine as at_words, ReadsVariable}
use Rattle.code.proofs.Steps.{point, leads_then, one_step, first_held}
use Rattle.code.proofs.ItemOperands.{constant_value}
use Rattle.code.proofs.Arriving.{Running, around, here, situation_here}
use Rattle.code.proofs.Variables.{variable_held}
use Rattle.code.proofs.Temporaries.{Scratch, scratch_with, reads_written, word_unwritten, pull_temporary}
use Rattle.code.proofs.Temporaries.{others_held_pull}
use Rattle.code.proofs.Delivering.{still_aside}
use Rattle.code.proofs.Alone.{Alone, IsOperandHere, next_place}
use Rattle.code.proofs.TestedWords.{between_tests, entry_between, Reached, reads_still, Tested, Indexed, tested}

module _ (c : Running) where
  open c use {story, a, p, accepted, holds, full, m, count, counts, routine, place, callers, locals, world, good}

  -- a word in a variable, which is to be one of those
  in_variable : (cause : Cause) (low end variable i : ℕ) → low < 32768 → end < 32768
      → (act : Operand → List Instruction)
      → (before rest other : List ℕ)
      → (r : Reached c before rest other (tested_between a cause low end variable ++ act (Variable variable)))
      → ReadsVariable (around c) r.memory locals variable i
      → ((memory : List ℕ) → Scratch c memory → word_of memory 248 ≡ word_of r.memory 248
      → word_of memory aside_variable ≡ word_of r.memory aside_variable
      → ReadsVariable (around c) memory locals variable i)
      → r.q + length (flat_map bytes_of (tested_between a cause low end variable ++ act (Variable variable)))
      ≡ next_place c
      → next_place c < length m → Tested c cause (is_between low end i) i before rest other act
  in_variable cause low end variable i small few act before rest other r reads still size followed =
      subst (λ b. Tested c cause b i before rest other act) (sym (between_tests low end i small few))
      (tested c cause low variable i end act before rest other r reads still size followed)

  -- a number that stands in place of its tests
  number_tested : (cause : Cause) (n : ℕ) (act : Operand → List Instruction) (before rest other : List ℕ) (b : Bool)
      → (r : Reached c before rest other (if b then act (constant n) else fail (fault_address a cause)))
      → r.q + length (flat_map bytes_of (if b then act (constant n) else fail (fault_address a cause)))
      ≡ next_place c
      → Tested c cause b n before rest other act
  number_tested cause n act before rest other true r end = record {
    operand = constant n;
    reached = r;
    end = end;
    value = constant_value (at_words (around c) r.memory locals rest world.text) n;
    stays = λ memory words scratch same _. constant_value (at_words (around c) memory locals words world.text) n;
  }
  number_tested cause n act before rest other false r end = r

  -- an index that is pushed goes to a variable of the compiler
  pulled : (is : List Instruction) (before mid other : List ℕ) (v : ℕ) (rest : List ℕ) → mid ≡ v ∷ rest
      → Reached c before mid other (pull 248 ∷ is) → Reached c before rest other is
  unfolding bytes_of
  pulled is before mid other v rest e r =
      let m1 = with_variable r.memory 248 v in
      let scratch = scratch_with c r.memory 248 v r.scratch (omega arith) (omega arith) in
      record {
        memory = m1;
        scratch = scratch;
        q = r.q + 3;
        from = omega (arith, r.from);
        held = others_held_pull c 248 is r.q r.held;
        leads = leads_then (point (here c) world.fuel) (point r.q world.fuel) (point (r.q + 3) world.fuel)
            (at_words (around c) m locals before world.text)
            (at_words (around c) r.memory locals (v ∷ rest) world.text)
            (at_words (around c) m1 locals rest world.text)
            (subst (λ ws. Leads (point (here c) world.fuel) (at_words (around c) m locals before world.text)
            (point r.q world.fuel) (at_words (around c) r.memory locals ws world.text)) e r.leads)
            (one_step (point r.q world.fuel) (point (r.q + 3) world.fuel)
            (at_words (around c) r.memory locals (v ∷ rest) world.text)
            (at_words (around c) m1 locals rest world.text)
            (pull_temporary c r.memory rest world.text r.q 248 v r.scratch (omega arith) (omega arith) r.from
            (first_held m r.q (pull 248) is r.held)));
        unwritten = λ x low small. word_unwritten c r.memory 248 v x r.scratch (omega arith) (omega arith)
            (omega (arith, low)) (λ f. omega (arith, f, low)) ∙ r.unwritten x low small;
      }

  -- a word in any place, which is to be one of those from one number on and below another
  pub between : (cause : Cause) (low end : ℕ) (o : items.Operand) (act : Operand → List Instruction)
      (before mid other : List ℕ) (v : ℕ) (rest : List ℕ) → low < 32768 → end < 32768 → IsOperandHere c o
      → Alone o (situation_here c) mid v rest
      → (r : Reached c before mid other (at_tested a cause low end o act))
      → r.q + length (flat_map bytes_of (at_tested a cause low end o act)) ≡ next_place c → next_place c < length m
      → Tested c cause (is_between low end v) v before rest other act
  unfolding bytes_of pulled
  between cause low end items.pushed act before mid other v rest small few is alone r size followed =
      let code = tested_between a cause low end 248 ++ act (Variable 248) in
      let next = pulled code before mid other v rest alone r in
      in_variable cause low end 248 v small few act before rest other next
      (reads_written c r.memory 248 v r.scratch (omega arith) (omega arith))
      (reads_still c r.memory v r.scratch) (omega (arith, size)) followed
  between cause low end (items.number n) act before mid other v rest small few is alone r size followed =
      subst (λ (x : ℕ). Tested c cause (is_between low end x) x before rest other act) alone.0
      (subst (λ ws. Tested c cause (is_between low end n) n before ws other act) alone.1
      (number_tested cause n act before mid other (is_between low end n) r size))
  between cause low end (items.variable x) act before mid other v rest small few is alone r size followed =
      subst (λ (i : ℕ). Tested c cause (is_between low end i) i before rest other act) alone.0
      (subst (λ ws. Tested c cause (is_between low end (value_in x (situation_here c))) (value_in x (situation_here c))
      before ws other act) alone.1
      (in_variable cause low end (number_of x) (value_in x (situation_here c)) small few act before mid other r
      (variable_held c r.memory x r.scratch is).reads
      (λ memory scratch same _. (variable_held c memory x scratch is).reads) size followed))

  -- a number whose tests stand before what is done, which is then after their fault
  number_labelled : (cause : Cause) (n : ℕ) (act : Operand → List Instruction) (before rest other : List ℕ) (b : Bool)
      → (r : Reached c before rest other ((if b then [] else fail (fault_address a cause)) ++ act (constant n)))
      → r.q + length (flat_map bytes_of ((if b then [] else fail (fault_address a cause)) ++ act (constant n)))
      ≡ next_place c
      → Tested c cause b n before rest other act
  unfolding bytes_of
  number_labelled cause n act before rest other true r end = number_tested cause n act before rest other true r end
  number_labelled cause n act before rest other false r end =
      let k = fail (fault_address a cause) in
      record {
        memory = r.memory;
        scratch = r.scratch;
        q = r.q;
        from = r.from;
        held = (holds_append m r.q (flat_map bytes_of k) (flat_map bytes_of (act (constant n))) r.held).0;
        leads = r.leads;
        unwritten = r.unwritten;
      }

  -- the same where what is done ends in a branch to a label
  pub between_labelled : (cause : Cause) (low end : ℕ) (o : items.Operand) (act : Operand → List Instruction)
      (before mid other : List ℕ) (v : ℕ) (rest : List ℕ) → low < 32768 → end < 32768 → IsOperandHere c o
      → Alone o (situation_here c) mid v rest
      → (r : Reached c before mid other (pulled_into 0 o ++ (tests_in 0 a cause low end o ++ act (word_in 0 o))))
      → r.q + length (flat_map bytes_of (pulled_into 0 o ++ (tests_in 0 a cause low end o ++ act (word_in 0 o))))
      ≡ next_place c → next_place c < length m
      → Tested c cause (is_between low end v) v before rest other act
  between_labelled cause low end items.pushed act before mid other v rest small few is alone r size followed =
      between cause low end items.pushed act before mid other v rest small few is alone r size followed
  between_labelled cause low end (items.number n) act before mid other v rest small few is alone r size followed =
      subst (λ (x : ℕ). Tested c cause (is_between low end x) x before rest other act) alone.0
      (subst (λ ws. Tested c cause (is_between low end n) n before ws other act) alone.1
      (number_labelled cause n act before mid other (is_between low end n) r size))
  between_labelled cause low end (items.variable x) act before mid other v rest small few is alone r size followed =
      between cause low end (items.variable x) act before mid other v rest small few is alone r size followed

  -- an index in any place
  pub indexed : (number : ℕ) (o : items.Operand) (act : Operand → List Instruction) (before mid other : List ℕ)
      (v : ℕ) (rest : List ℕ) → number < 32768 → IsOperandHere c o → Alone o (situation_here c) mid v rest
      → (r : Reached c before mid other (at_index a number o act))
      → r.q + length (flat_map bytes_of (at_index a number o act)) ≡ next_place c → next_place c < length m
      → Indexed c (is_entry number v) v before rest other act
  indexed number o act before mid other v rest few is alone r end followed =
      subst (λ b. Indexed c b v before rest other act) (entry_between number v)
      (between causes.IndexOutOfRange 0 number o act before mid other v rest (omega arith) few is alone r end followed)

  -- an index that was put aside, and is still there
  pub indexed_aside : (number i : ℕ) (act : Operand → List Instruction) (before rest : List ℕ) → number < 32768
      → HoldsAside story m (Some i)
      → (r : Reached c before rest m (tested_index a number aside_variable ++ act (Variable aside_variable)))
      → r.q + length (flat_map bytes_of (tested_index a number aside_variable ++ act (Variable aside_variable)))
      ≡ next_place c
      → next_place c < length m → Indexed c (is_entry number i) i before rest m act
  indexed_aside number i act before rest few held r end followed =
      let here_still = r.unwritten aside_variable (omega arith) (omega arith) in
      subst (λ b. Indexed c b i before rest m act) (entry_between number i)
      (in_variable causes.IndexOutOfRange 0 number aside_variable i (omega arith) few act before rest m r
      (still_aside c i r.memory held here_still)
      (λ memory scratch same same_aside. still_aside c i memory held (same_aside ∙ here_still)) end followed)
