-- The compiler's variables of a running routine.
use Rattle.std.proofs.Common.{◌≡◌, ◌≢◌, ℕ, ◌+◌, ◌<◌, ◌≤◌, List, ◌∷◌, length, drop, refl, ◌∙◌, subst, arith}
use Rattle.std.specs.List.{flat_map}
use Rattle.zcore.specs.Header.{static_base_of}
use Rattle.zcore.specs.Instruction.{Instruction}
use Rattle.zcore.specs.InstructionBytes.{bytes_of}
use Rattle.zcore.specs.State.{done}
use Rattle.zcore.specs.Parts.{operand_values}
use Rattle.zcore.specs.Execution.{step, perform}
use Rattle.code_drafts.specs.Instructions.{pull, copy}
use Rattle.code.proofs.Behind.{Holds, holds_on}
use Rattle.code.proofs.Play.{Stored}
use Rattle.code.proofs.Memory.{word_of, with_variable, Ground, writes_ground, stored_temporary}
use Rattle.code.proofs.Parts.{machine as at_words, global_reads, global_writes, ReadsVariable}
use Rattle.code.proofs.Steps.{point, others_held, step_is}
use Rattle.code.proofs.SingleSteps.{pull_step, copy_step}
use Rattle.code.proofs.Fitting.{Shaped, held_bytes, encodable}
use Rattle.code.proofs.Arriving.{Running, around, here, ground, high, few, kept}

module _ (c : Running) where
  open c use {story, a, p, accepted, holds, full, m, count, counts, routine, place, callers, locals, world, good}

  -- memory with other words in the compiler's variables
  pub record Scratch (other : List ℕ) : Type 0 where
    pub ground : Ground (static_base_of story) other
    pub stored : Stored story a p world.globals world.arrays world.objects other
    pub kept : drop (static_base_of story) other ≡ drop (static_base_of story) m

  pub scratch_here : Scratch m
  scratch_here = record { ground = ground c; stored = good.stored; kept = refl }

  pub scratch_with : (other : List ℕ) (variable word : ℕ) → Scratch other → 248 ≤ variable → variable < 256
      → Scratch (with_variable other variable word)
  scratch_with other variable word scratch low small =
      let written = writes_ground (static_base_of story) other variable word scratch.ground (omega (arith, low))
      small in
      record {
        ground = written.ground;
        stored = stored_temporary story a p world.globals world.arrays world.objects other scratch.ground (few c)
            scratch.stored
            variable word low
            small;
        kept = written.kept ∙ scratch.kept;
      }

  -- what was written there, and what was not
  pub reads_written : (other : List ℕ) (variable word : ℕ) → Scratch other → 248 ≤ variable → variable < 256
      → ReadsVariable (around c) (with_variable other variable word) locals variable word
  reads_written other variable word scratch low small =
      subst (λ x. ReadsVariable (around c) (with_variable other variable word) locals variable x)
      (writes_ground (static_base_of story) other variable word scratch.ground (omega (arith, low)) small).is
      (global_reads (around c) (with_variable other variable word) locals variable (omega (arith, low)) small)

  pub reads_other : (other : List ℕ) (variable word v x : ℕ) → Scratch other → 248 ≤ variable → variable < 256
      → 248 ≤ v
      → v < 256 → v ≢ variable → word_of other v ≡ x
      → ReadsVariable (around c) (with_variable other variable word) locals v x
  reads_other other variable word v x scratch low small low1 small1 differs is =
      subst (λ x. ReadsVariable (around c) (with_variable other variable word) locals v x)
      ((writes_ground (static_base_of story) other variable word scratch.ground (omega (arith, low)) small).other v
      (omega (arith, low1)) differs ∙ is)
      (global_reads (around c) (with_variable other variable word) locals v (omega (arith, low1)) small1)

  pub word_written : (other : List ℕ) (variable word : ℕ) → Scratch other → 248 ≤ variable → variable < 256
      → word_of (with_variable other variable word) variable ≡ word
  word_written other variable word scratch low small =
      (writes_ground (static_base_of story) other variable word scratch.ground (omega (arith, low)) small).is

  pub word_unwritten : (other : List ℕ) (variable word v : ℕ) → Scratch other → 248 ≤ variable → variable < 256
      → 248 ≤ v → v ≢ variable → word_of (with_variable other variable word) v ≡ word_of other v
  word_unwritten other variable word v scratch low small low1 differs =
      (writes_ground (static_base_of story) other variable word scratch.ground (omega (arith, low)) small).other v
      (omega (arith, low1)) differs

  -- an item's bytes stand there too
  pub held_in : (other bytes : List ℕ) (q : ℕ) → Scratch other → here c ≤ q → Holds m q bytes → Holds other q bytes
  held_in other bytes q scratch from h =
      holds_on (static_base_of story) q m other bytes scratch.kept (omega (arith, high c, from)) h

  -- the step of an instruction whose operands have values, with so much fuel
  pub made_at : (fuel : ℕ) (other s s1 text : List ℕ) (q : ℕ) (i : Instruction) (values : List ℕ) → Scratch other
      → here c ≤ q
      → Shaped i → Holds m q (bytes_of i)
      → operand_values i.operands (at_words (around c) other locals s text)
      ≡ done values (at_words (around c) other locals s1 text)
      → step (point q fuel) (at_words (around c) other locals s text)
      ≡ perform i.operation (point q fuel) (q + length (bytes_of i)) i.result i.branch values
      (at_words (around c) other locals s1 text)
  made_at fuel other s s1 text q i values scratch from shaped h is =
      step_is (point q fuel) (at_words (around c) other locals s text)
      (at_words (around c) other locals s1 text)
      i values
      (encodable i shaped (held_bytes (static_base_of story) q story m (bytes_of i) holds.byte_each (kept c)
      (omega (arith, high c, from)) h))
      (held_in other (bytes_of i) q scratch from h) is

  pub made : (other s s1 text : List ℕ) (q : ℕ) (i : Instruction) (values : List ℕ) → Scratch other → here c ≤ q
      → Shaped i → Holds m q (bytes_of i)
      → operand_values i.operands (at_words (around c) other locals s text)
      ≡ done values (at_words (around c) other locals s1 text)
      → step (point q world.fuel) (at_words (around c) other locals s text)
      ≡ perform i.operation (point q world.fuel) (q + length (bytes_of i)) i.result i.branch values
      (at_words (around c) other locals s1 text)
  made other s s1 text q i values scratch from shaped h is =
      made_at world.fuel other s s1 text q i values scratch from shaped h is

  -- a word is pulled into a temporary
  pub pull_temporary : (other s text : List ℕ) (q variable word : ℕ) → Scratch other → 248 ≤ variable → variable < 256
      → here c ≤ q → Holds m q (bytes_of (pull variable))
      → step (point q world.fuel) (at_words (around c) other locals (word ∷ s) text)
      ≡ done (point (q + 3) world.fuel) (at_words (around c) (with_variable other variable word) locals s text)
  unfolding bytes_of
  pull_temporary other s text q variable word scratch low small from h =
      pull_step (around c) world.fuel other locals s text (with_variable other variable word) locals q variable word
      (global_writes (around c) other locals variable word (omega (arith, low)) small)
      (held_in other (bytes_of (pull variable)) q scratch from h)

  -- the top goes to a temporary too
  pub copy_temporary : (other s text : List ℕ) (q variable word : ℕ) → Scratch other → 248 ≤ variable → variable < 256
      → here c ≤ q → Holds m q (bytes_of (copy variable))
      → step (point q world.fuel) (at_words (around c) other locals (word ∷ s) text)
      ≡ done (point (q + 3) world.fuel)
      (at_words (around c) (with_variable other variable word) locals (word ∷ s) text)
  unfolding bytes_of
  copy_temporary other s text q variable word scratch low small from h =
      copy_step (around c) world.fuel other locals s text (with_variable other variable word) locals q variable word
      (global_writes (around c) other locals variable word (omega (arith, low)) small)
      (held_in other (bytes_of (copy variable)) q scratch from h)

  -- what stands after a pull
  pub others_held_pull : (variable : ℕ) (is : List Instruction) (q : ℕ)
      → Holds m q (flat_map bytes_of (pull variable ∷ is)) → Holds m (q + 3) (flat_map bytes_of is)
  unfolding bytes_of
  others_held_pull variable is q h = others_held m q (pull variable) is h
