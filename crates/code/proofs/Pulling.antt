-- Operands that are pushed go to variables of the compiler, one after another.
use Rattle.std.proofs.Common.{◌≡◌, ◌≢◌, ℕ, ◌+◌, ◌<◌, ◌≤◌, List, [], ◌∷◌, ◌++◌, length, refl, subst, arith}
use Rattle.std.specs.List.{flat_map}
use Rattle.zcore.specs.declared.instruction.Operand.{Operand}
use Rattle.zcore.specs.Instruction.{Instruction}
use Rattle.zcore.specs.InstructionBytes.{bytes_of}
use Rattle.code_drafts.specs.Items.{Item}
use Rattle.code_drafts.specs.Items as items
use Rattle.code_drafts.specs.Instructions.{pull, pulled_into}
use Rattle.code.specs.ItemBytes.{text_bytes}
use Rattle.code.proofs.Play.{Leads, stays}
use Rattle.code.proofs.Memory.{word_of, with_variable}
use Rattle.code.proofs.Parts.{machine as at_words}
use Rattle.code.proofs.Steps.{point, leads_then, one_step, first_held}
use Rattle.code.proofs.Arriving.{Running, around, here, code_here, code_held, situation_here, ArrivesAt}
use Rattle.code.proofs.Temporaries.{scratch_here, scratch_with, word_written, word_unwritten, pull_temporary}
use Rattle.code.proofs.Temporaries.{others_held_pull}
use Rattle.code.proofs.Alone.{Alone, next_place}
use Rattle.code.proofs.TestedWords.{Reached, AtIndex}
use Rattle.code.proofs.TestedObjects.{begins_end}
use Rattle.code.proofs.Working.{Works, HoldsWord}

module _ (c : Running) where
  open c use {story, a, p, accepted, holds, full, m, count, counts, routine, place, callers, locals, world, good}

  -- an item begins
  pub record Opened (s : List ℕ) (is : List Instruction) : Type 0 where
    pub reached : Reached c s s m is
    pub end : reached.q + length (flat_map bytes_of is) ≡ next_place c
    pub memory_is : reached.memory ≡ m

  pub opens : (item : Item) (s : List ℕ) → text_bytes p.abbreviations item ≡ [] → ArrivesAt c item
      → Opened s (code_here c item)
  opens item s none stands = record {
    reached = record {
      memory = m;
      scratch = scratch_here c;
      q = here c;
      from = omega arith;
      held = code_held c item stands;
      leads = stays (point (here c) world.fuel) (at_words (around c) m locals s world.text);
      unwritten = λ v low small. refl;
    };
    end = begins_end c item none stands;
    memory_is = refl;
  }

  -- an operand is where instructions take it from, in a variable of the compiler where it was pushed
  pub record Pulled (n : ℕ) (o : items.Operand) (w : ℕ) (before left old : List ℕ) (is : List Instruction) : Type 0
    where
      pub memory : List ℕ
      pub word : HoldsWord c n o w memory
      pub reached : Reached c before left memory is
      pub end : reached.q + length (flat_map bytes_of is) ≡ next_place c
      pub others : (x : ℕ) → 248 ≤ x → x ≢ (248 + n) → word_of memory x ≡ word_of old x

  pub pulls : (n : ℕ) (o : items.Operand) (is : List Instruction) (before mid other : List ℕ) (w : ℕ) (left : List ℕ)
      → 1 ≤ n → n < 8 → Alone o (situation_here c) mid w left
      → (r : Reached c before mid other (pulled_into n o ++ is))
      → r.q + length (flat_map bytes_of (pulled_into n o ++ is)) ≡ next_place c
      → Pulled n o w before left r.memory is
  unfolding bytes_of
  pulls n items.pushed is before mid other w left some few alone r end =
      let m1 = with_variable r.memory (248 + n) w in
      let scratch = scratch_with c r.memory (248 + n) w r.scratch (omega arith) (omega (arith, few)) in
      record {
        memory = m1;
        word = word_written c r.memory (248 + n) w r.scratch (omega arith) (omega (arith, few));
        reached = record {
          memory = m1;
          scratch = scratch;
          q = r.q + 3;
          from = omega (arith, r.from);
          held = others_held_pull c (248 + n) is r.q r.held;
          leads = leads_then (point (here c) world.fuel) (point r.q world.fuel) (point (r.q + 3) world.fuel)
              (at_words (around c) m locals before world.text)
              (at_words (around c) r.memory locals (w ∷ left) world.text)
              (at_words (around c) m1 locals left world.text)
              (subst (λ ws. Leads (point (here c) world.fuel) (at_words (around c) m locals before world.text)
              (point r.q world.fuel) (at_words (around c) r.memory locals ws world.text)) alone r.leads)
              (one_step (point r.q world.fuel) (point (r.q + 3) world.fuel)
              (at_words (around c) r.memory locals (w ∷ left) world.text)
              (at_words (around c) m1 locals left world.text)
              (pull_temporary c r.memory left world.text r.q (248 + n) w r.scratch (omega arith) (omega (arith, few))
              r.from (first_held m r.q (pull (248 + n)) is r.held)));
          unwritten = λ x low small. refl;
        };
        end = omega (arith, end);
        others = λ x low differs.
            word_unwritten c r.memory (248 + n) w x r.scratch (omega arith) (omega (arith, few)) low differs;
      }
  pulls n (items.number k) is before mid other w left some few alone r end = record {
    memory = r.memory;
    word = alone.0;
    reached = record {
      memory = r.memory;
      scratch = r.scratch;
      q = r.q;
      from = r.from;
      held = r.held;
      leads = subst (λ ws. Leads (point (here c) world.fuel) (at_words (around c) m locals before world.text)
          (point r.q world.fuel) (at_words (around c) r.memory locals ws world.text)) alone.1 r.leads;
      unwritten = λ x low small. refl;
    };
    end = end;
    others = λ x low differs. refl;
  }
  pulls n (items.variable y) is before mid other w left some few alone r end = record {
    memory = r.memory;
    word = alone.0;
    reached = record {
      memory = r.memory;
      scratch = r.scratch;
      q = r.q;
      from = r.from;
      held = r.held;
      leads = subst (λ ws. Leads (point (here c) world.fuel) (at_words (around c) m locals before world.text)
          (point r.q world.fuel) (at_words (around c) r.memory locals ws world.text)) alone.1 r.leads;
      unwritten = λ x low small. refl;
    };
    end = end;
    others = λ x low differs. refl;
  }

  -- the machine comes to what is done at an object, with the words of properties where they are
  pub works_at : (v : ℕ) (before rest other : List ℕ) (act : Operand → List Instruction)
      (t : AtIndex c v before rest other act)
      → Works c t.reached.scratch.stored.tables before rest t.reached.memory t.reached.q (act t.operand)
  works_at v before rest other act t = record {
    scratch = t.reached.scratch;
    has = t.reached.scratch.stored.has;
    from = t.reached.from;
    held = t.reached.held;
    end = t.end;
    leads = t.reached.leads;
  }
