-- The item that begins a loop over all objects.
use Rattle.std.proofs.Common.{◌≡◌, ℕ, ◌+◌, ◌≤◌, List, [], ◌∷◌, length, Option, None, Bool, true, false, refl, ap, ◌∙◌}
use Rattle.std.proofs.Common.{arith}
use Rattle.std.specs.Prelude.{map, ◌==◌, if◌then◌else◌}
use Rattle.zcore.specs.declared.instruction.Operand.TheVariants.{Small}
use Rattle.zcore.specs.InstructionBytes.{bytes_of}
use Rattle.zcore.specs.Execution.{perform}
use Rattle.meaning.specs.declared.resolved.Variable as resolved
use Rattle.meaning.specs.World.{with_value, write_variable, give, ◌>>=◌}
use Rattle.code_drafts.specs.Items.{agrees}
use Rattle.code_drafts.specs.Items as items
use Rattle.code_items.specs.Stack as stack
use Rattle.code_drafts.specs.Instructions.{number_of, store}
use Rattle.code.proofs.Play.{Leads, none_aside}
use Rattle.code.proofs.Parts.{machine as at_words}
use Rattle.code.proofs.Steps.{point, one_step, two_operands, small_value}
use Rattle.code.proofs.Fitting.{Shaped}
use Rattle.code.proofs.Arriving.{Running, at_aside, around, here, LedFrom, situation_here, ArrivesAt}
use Rattle.code.proofs.Variables.{memory_with, variable_held}
use Rattle.code.proofs.Temporaries.{scratch_here, made}
use Rattle.code.proofs.Delivering.{stored_step}
use Rattle.code.proofs.Alone.{next_place, single}
use Rattle.code.proofs.Moving.{fuel_same, text_same, IsVariableHere, written_led}
use Rattle.code.proofs.Jumping.{jump_to, jump_alone_led}
use Rattle.code.proofs.TestedObjects.{objects_here, objects_are}

module _ (c : Running) where
  open c use {story, a, p, accepted, holds, full, m, count, counts, routine, place, callers, locals, world, good}

  -- the machine comes to the next item, where a variable has another word
  pub variable_led : (x : resolved.Variable) (word end : ℕ) (words : List ℕ) → IsVariableHere c x → length words ≤ 48
      → end ≡ next_place c
      → Leads (point (here c) world.fuel) (at_words (around c) m locals words world.text) (point end world.fuel)
      (at_words (around c) (memory_with c m x word) (with_value x word (situation_here c)).locals words world.text)
      → LedFrom c words (stack.goes (stack.after (at_aside c None words) words (with_value x word (situation_here c))))
  variable_led x word end words is room to leads =
      let held = variable_held c m x (scratch_here c) is in
      let situation = with_value x word (situation_here c) in
      written_led c words words (memory_with c m x word) situation end to room (held.stored word)
      (held.locals_same word) (held.globals_same word) (ap (map length) (held.arrays_same word))
      (fuel_same x word (situation_here c)) (text_same x word (situation_here c)) leads

  -- The first object

  abbrev First : Bool → resolved.Variable → ℕ → Option ℕ → List ℕ → stack.Next
  First b x target aside words =
      stack.after_part
      ((if b then give false else (write_variable x 1 >>= λ _. give true)) (situation_here c))
      (λ so situation. stack.branch (agrees so false) target words
      (record (at_aside c aside words) { situation = situation }))

  pub first_object_led : (x : resolved.Variable) (target : ℕ) (aside : Option ℕ) (words : List ℕ)
      → IsVariableHere c x → length words ≤ 48 → ArrivesAt c (items.first_object x target)
      → LedFrom c words (stack.decides (stack.begins_objects p x) false target words (at_aside c aside words))
  unfolding perform
  first_object_led x target aside words is room stands = go (length p.objects == 0) refl
    where
      count_same : (objects_here c == 0) ≡ (length p.objects == 0)
      count_same = ap (λ (n : ℕ). n == 0) (objects_are c)

      go : (b : Bool) → (length p.objects == 0) ≡ b → LedFrom c words (First b x target aside words)
      go true e =
          let is_jump = ap (λ (b : Bool). (if b then jump_to c target else store (number_of x) (Small 1)) ∷ [])
          (count_same ∙ e) in
          jump_alone_led c target None words room (none_aside story m)
          (single c (items.first_object x target) (jump_to c target) is_jump refl stands)
      go false e =
          let i = store (number_of x) (Small 1) in
          let is_store = ap (λ (b : Bool). (if b then jump_to c target else i) ∷ []) (count_same ∙ e) in
          let there = single c (items.first_object x target) i is_store refl stands in
          let st = at_words (around c) m locals words world.text in
          let held = variable_held c m x (scratch_here c) is in
          let end = here c + length (bytes_of i) in
          let to = at_words (around c) (memory_with c m x 1) (with_value x 1 (situation_here c)).locals words
          world.text in
          let shaped : Shaped i = record {
            least = omega arith;
            most = omega arith;
            result_fits = tt;
            branch_fits = tt;
          } in
          variable_led x 1 end words is room there.end
          (one_step (point (here c) world.fuel) (point end world.fuel) st to
          (made c m words words world.text (here c) i (number_of x ∷ 1 ∷ []) (scratch_here c) (omega arith) shaped
          there.held
          (two_operands st st st (Small (number_of x)) (Small 1) (number_of x) 1 (small_value st (number_of x))
          (small_value st 1))
          ∙ stored_step c (point (here c) world.fuel) end (number_of x) 1 words world.text m (memory_with c m x 1)
          (with_value x 1 (situation_here c)).locals (held.writes 1)))
