-- Operands of an item are taken: those that are pushed go to temporaries, but the first.
use Rattle.std.proofs.Common.{◌≡◌, ℕ, zero, suc, ◌+◌, ◌-◌, ◌*◌, ◌<◌, ◌≤◌, ◌⊎◌, inl, inr, List, [], ◌∷◌, ◌++◌, length}
use Rattle.std.proofs.Common.{drop, slice_index, refl, ap, ◌∙◌, subst, arith, length-append}
use Rattle.std.specs.List.{All, flat_map}
use Rattle.std.proofs.lemmas.Bool.{cases_lt}
use Rattle.std.proofs.lemmas.Grind.{flat_map-append}
use Rattle.zcore.specs.Instruction.{Instruction}
use Rattle.zcore.specs.InstructionBytes.{bytes_of}
use Rattle.zcore.specs.State.{done}
use Rattle.zcore.specs.Parts.{operand_values}
use Rattle.meaning.specs.Meaning.{routine_at}
use Rattle.code_drafts.specs.Items.{pushed, number, variable}
use Rattle.code_drafts.specs.Items as items
use Rattle.code_items.specs.Laws.{IsOperand}
use Rattle.code_drafts.specs.Instructions.{temporary, pull, pushed_count, take_words, takes, operands}
use Rattle.code.proofs.Behind.{Holds, holds_append}
use Rattle.code.proofs.Play.{Leads, stays, moves}
use Rattle.code.proofs.Memory.{word_of, with_variable}
use Rattle.code.proofs.Parts.{machine as at_words, global_reads, ReadsVariable}
use Rattle.code.proofs.Steps.{point, first_held, others_held}
use Rattle.code.proofs.ItemOperands.{with_first, Temporaries, VariablesRead, ready, ready_values, first_on_top}
use Rattle.code.proofs.ItemOperands.{GivesOperands, gives_count}
use Rattle.code.proofs.Arriving.{Running, around, here, situation_here}
use Rattle.code.proofs.Variables.{variable_held}
use Rattle.code.proofs.Temporaries.{Scratch, scratch_here, scratch_with, word_written, word_unwritten, pull_temporary}
use Rattle.meaning.specs.World.{Situation}

pub pulls_length : (n : ℕ) → length (flat_map bytes_of (take_words n)) ≡ 3 * n
unfolding bytes_of
pulls_length zero = refl
pulls_length (suc n) = let more = pulls_length n in omega (arith, more)

module _ (c : Running) where
  open c use {story, a, p, accepted, holds, full, m, count, counts, routine, place, callers, locals, world, good}

  -- so many words were taken from the stack
  record Pulled (other words : List ℕ) (q n : ℕ) : Type 0 where
    memory : List ℕ
    scratch : Scratch c memory
    leads : Leads (point q world.fuel) (at_words (around c) other locals words world.text)
        (point (q + 3 * n) world.fuel) (at_words (around c) memory locals (drop n words) world.text)
    words_are : (j : ℕ) → j < n → word_of memory (temporary j) ≡ slice_index words (n - 1 - j)
    unwritten : (v : ℕ) → 248 + n ≤ v → v < 256 → word_of memory v ≡ word_of other v

  pulled : (n : ℕ) (other words : List ℕ) (q : ℕ) → n ≤ 7 → n ≤ length words → Scratch c other → here c ≤ q
      → Holds m q (flat_map bytes_of (take_words n)) → Pulled other words q n
  unfolding bytes_of
  pulled zero other words q few enough scratch from h = record {
    memory = other;
    scratch = scratch;
    leads = subst (λ x. Leads (point q world.fuel) (at_words (around c) other locals words world.text)
        (point x world.fuel) (at_words (around c) other locals words world.text)) (omega arith)
        (stays (point q world.fuel) (at_words (around c) other locals words world.text));
    words_are = λ j h. absurd (omega (arith, h));
    unwritten = λ v low small. refl;
  }
  pulled (suc n) other [] q few enough scratch from h = absurd (omega (arith, enough))
  pulled (suc n) other (v ∷ rest) q few enough scratch from h =
      let low : 248 ≤ 248 + n = omega arith in
      let small : 248 + n < 256 = omega (arith, few) in
      let m1 = with_variable other (248 + n) v in
      let more = pulled n m1 rest (q + 3) (omega (arith, few)) (omega (arith, enough))
      (scratch_with c other (248 + n) v scratch low small) (omega (arith, from))
      (others_held m q (pull (temporary n)) (take_words n) h) in
      let is : word_of more.memory (248 + n) ≡ v =
      more.unwritten (248 + n) (omega arith) small ∙ word_written c other (248 + n) v scratch low small in
      record {
        memory = more.memory;
        scratch = more.scratch;
        leads = moves (point q world.fuel) (point (q + 3) world.fuel) (point (q + 3 * suc n) world.fuel)
            (at_words (around c) other locals (v ∷ rest) world.text) (at_words (around c) m1 locals rest world.text)
            (at_words (around c) more.memory locals (drop n rest) world.text)
            (pull_temporary c other rest world.text q (248 + n) v scratch low small from
            (first_held m q (pull (temporary n)) (take_words n) h))
            (subst (λ x. Leads (point (q + 3) world.fuel) (at_words (around c) m1 locals rest world.text)
            (point x world.fuel) (at_words (around c) more.memory locals (drop n rest) world.text))
            (omega arith) more.leads);
        words_are = λ j h. each more.memory v rest n j (cases_lt j n) h is (more.words_are j);
        unwritten = λ w above_it below. more.unwritten w (omega (arith, above_it)) below
            ∙ word_unwritten c other (248 + n) v w scratch low small (omega (arith, above_it))
            (λ e. omega (arith, e, above_it));
      }
    where
      each : (memory : List ℕ) (v : ℕ) (rest : List ℕ) (n j : ℕ) → (j < n) ⊎ (n ≤ j) → j < suc n
          → word_of memory (248 + n) ≡ v → (j < n → word_of memory (temporary j) ≡ slice_index rest (n - 1 - j))
          → word_of memory (temporary j) ≡ slice_index (v ∷ rest) (suc n - 1 - j)
      each memory v rest n j (inl lt) h is more =
          let number : suc (n - 1 - j) ≡ suc n - 1 - j = omega (arith, lt) in
          more lt ∙ ap (slice_index (v ∷ rest)) number
      each memory v rest n j (inr le) h is more =
          let number : zero ≡ suc n - 1 - j = omega (arith, le) in
          let same : 248 + j ≡ 248 + n = omega (arith, le, h) in
          ap (word_of memory) same ∙ is ∙ ap (slice_index (v ∷ rest)) number

  variables_read : (other : List ℕ) (os : List items.Operand) → Scratch c other
      → All (IsOperand p (routine_at p.routines routine).locals) os
      → VariablesRead (around c) other locals (situation_here c) os
  variables_read other [] scratch all = tt
  variables_read other (pushed ∷ os) scratch all =
      variables_read other os scratch (λ k d h. all (suc k) d (omega (arith, h)))
  variables_read other (number n ∷ os) scratch all =
      variables_read other os scratch (λ k d h. all (suc k) d (omega (arith, h)))
  variables_read other (variable x ∷ os) scratch all = (
    (variable_held c other x scratch (all 0 (variable x) (omega arith))).reads,
    variables_read other os scratch (λ k d h. all (suc k) d (omega (arith, h))),
  )

  -- where the instruction stands that takes the operands
  abbrev pub after_takes : List items.Operand → ℕ
  after_takes os = here c + 3 * (pushed_count os - 1)

  -- operands were taken, and come to these values
  pub record Taken (os : List items.Operand) (words vs rest : List ℕ) : Type 0 where
    pub memory : List ℕ
    pub scratch : Scratch c memory
    pub leads : Leads (point (here c) world.fuel) (at_words (around c) m locals words world.text)
        (point (after_takes os) world.fuel) (at_words (around c) memory locals (with_first os vs rest) world.text)
    pub values : (text : List ℕ)
        → operand_values (operands os) (at_words (around c) memory locals (with_first os vs rest) text)
        ≡ done vs (at_words (around c) memory locals rest text)

  -- where the variables among them are read in the memory to which they are taken
  pub taken_by : (s : Situation) (os : List items.Operand) (words vs rest : List ℕ)
      → ((other : List ℕ) → Scratch c other
      → ((v : ℕ) → 248 + (pushed_count os - 1) ≤ v → v < 256 → word_of other v ≡ word_of m v)
      → VariablesRead (around c) other locals s os)
      → pushed_count os ≤ 8 → GivesOperands os s words vs rest
      → Holds m (here c) (flat_map bytes_of (takes os)) → Taken os words vs rest
  taken_by s os words vs rest reads few g h =
      let n = pushed_count os - 1 in
      let count = gives_count os s words vs rest g in
      let t = pulled n m words (here c) (omega (arith, few)) (omega (arith, count)) (scratch_here c) (omega arith) h in
      let on_top = first_on_top os s words vs rest g in
      let each : Temporaries (around c) t.memory locals 0 n words =
      λ j l.
      let number : j ≡ 0 + j = omega arith in
      subst (λ i. ReadsVariable (around c) t.memory locals (temporary i) (slice_index words (n - 1 - j))) number
      (subst (λ x. ReadsVariable (around c) t.memory locals (temporary j) x) (t.words_are j l)
      (global_reads (around c) t.memory locals (temporary j) (omega arith) (omega (arith, l, few)))) in
      let read = ready (around c) t.memory locals os s words vs rest g
      (reads t.memory t.scratch t.unwritten) each in
      record {
        memory = t.memory;
        scratch = t.scratch;
        leads = subst (λ ws. Leads (point (here c) world.fuel) (at_words (around c) m locals words world.text)
            (point (after_takes os) world.fuel) (at_words (around c) t.memory locals ws world.text)) on_top t.leads;
        values = λ text. ready_values (around c) t.memory locals os vs rest text read;
      }

  pub taken : (os : List items.Operand) (words vs rest : List ℕ)
      → All (IsOperand p (routine_at p.routines routine).locals) os → pushed_count os ≤ 8
      → GivesOperands os (situation_here c) words vs rest
      → Holds m (here c) (flat_map bytes_of (takes os)) → Taken os words vs rest
  taken os words vs rest all few g h =
      taken_by (situation_here c) os words vs rest (λ other scratch _. variables_read other os scratch all) few g h

  -- what takes the operands stands here, and what follows it stands after it
  pub record Apart (os : List items.Operand) (is : List Instruction) : Type 0 where
    pub takes_held : Holds m (here c) (flat_map bytes_of (takes os))
    pub others : Holds m (after_takes os) (flat_map bytes_of is)
    pub sizes : length (flat_map bytes_of (takes os ++ is))
        ≡ 3 * (pushed_count os - 1) + length (flat_map bytes_of is)

  pub apart : (os : List items.Operand) (is : List Instruction)
      → Holds m (here c) (flat_map bytes_of (takes os ++ is))
      → Apart os is
  apart os is h =
      let parts = flat_map-append bytes_of (takes os) is in
      let both = holds_append m (here c) (flat_map bytes_of (takes os)) (flat_map bytes_of is)
      (subst (Holds m (here c)) parts h) in
      let n = pulls_length (pushed_count os - 1) in
      record {
        takes_held = both.0;
        others = subst (λ k. Holds m (here c + k) (flat_map bytes_of is)) n both.1;
        sizes = ap length parts ∙ length-append (flat_map bytes_of (takes os)) (flat_map bytes_of is)
            ∙ ap (λ k. k + length (flat_map bytes_of is)) n;
      }
