-- Returns.
use Rattle.std.proofs.Common.{◌≡◌, ℕ, List, [], ◌∷◌, Bool, true, false, refl, sym, ap, ◌∙◌, arith}
use Rattle.std.specs.Prelude.{if◌then◌else◌, ◌==◌}
use Rattle.std.proofs.lemmas.Bool.{eqb-true}
use Rattle.zcore.specs.declared.instruction.Operation.TheVariants as operations
use Rattle.zcore.specs.InstructionBytes.{bytes_of}
use Rattle.zcore.specs.Parts.{give_back}
use Rattle.zcore.specs.Execution.{perform, return_popped}
use Rattle.code_drafts.specs.Items as items
use Rattle.code_items.specs.Stack as stack
use Rattle.code_drafts.specs.Instructions.{plain, constant, in_place}
use Rattle.code_instructions.specs.Instructions.{return_code}
use Rattle.code.proofs.Behind.{Holds}
use Rattle.code.proofs.Parts.{machine as at_words, tops}
use Rattle.code.proofs.Steps.{no_operand, one_operand}
use Rattle.code.proofs.Fitting.{Shaped}
use Rattle.code.proofs.Arriving.{Running, around, here, LedFrom, situation_here, ArrivesAt}
use Rattle.code.proofs.Temporaries.{scratch_here, made}
use Rattle.code.proofs.Alone.{IsOperandHere, by_operand, alone_value, single}
use Rattle.code.proofs.Resuming.{returns_to}

module _ (c : Running) where
  open c use {story, a, p, accepted, holds, full, m, count, counts, routine, place, callers, locals, world, good}

  abbrev Returned : items.Operand → List ℕ → Type 0
  Returned o words = LedFrom c words (stack.with_operand o (situation_here c) words
      (λ v rest. stack.return_to callers v world))

  bare_shaped : Shaped (plain operations.ReturnPopped [])
  bare_shaped = record { least = omega arith; most = omega arith; result_fits = tt; branch_fits = tt }

  -- `ret` of an operand
  ret_led : (o : items.Operand) (words : List ℕ) → IsOperandHere c o
      → Holds m (here c) (bytes_of (plain operations.Return (in_place o ∷ []))) → Returned o words
  unfolding perform
  ret_led o words is h = by_operand o (situation_here c) words (LedFrom c words)
      (λ v rest. stack.return_to callers v world) tt (λ v rest alone.
      let i = plain operations.Return (in_place o ∷ []) in
      let st = at_words (around c) m locals words world.text in
      let st1 = at_words (around c) m locals rest world.text in
      returns_to c callers counts words rest v good.callers good.few
      (made c m words rest world.text (here c) i (v ∷ []) (scratch_here c) (omega arith)
      (record { least = omega arith; most = omega arith; result_fits = tt; branch_fits = tt }) h
      (one_operand st st1 (in_place o) v (alone_value c o m world.text words v rest (scratch_here c) is alone))))

  number_led : (n : ℕ) (one none : Bool) (words : List ℕ) → (n == 1) ≡ one → (n == 0) ≡ none
      → Holds m (here c) (bytes_of (if one then plain operations.ReturnTrue []
      else (if none then plain operations.ReturnFalse [] else plain operations.Return (constant n ∷ []))))
      → Returned (items.number n) words
  unfolding perform
  number_led n true none words e f h =
      let i = plain operations.ReturnTrue [] in
      let st = at_words (around c) m locals words world.text in
      let is = eqb-true n 1 e in
      returns_to c callers counts words words n good.callers good.few
      (made c m words words world.text (here c) i [] (scratch_here c) (omega arith)
      (record { least = omega arith; most = omega arith; result_fits = tt; branch_fits = tt }) h (no_operand st)
      ∙ ap (λ (k : ℕ). give_back world.fuel k st) (sym is))
  number_led n false true words e f h =
      let i = plain operations.ReturnFalse [] in
      let st = at_words (around c) m locals words world.text in
      let is = eqb-true n 0 f in
      returns_to c callers counts words words n good.callers good.few
      (made c m words words world.text (here c) i [] (scratch_here c) (omega arith)
      (record { least = omega arith; most = omega arith; result_fits = tt; branch_fits = tt }) h (no_operand st)
      ∙ ap (λ (k : ℕ). give_back world.fuel k st) (sym is))
  number_led n false false words e f h = ret_led (items.number n) words tt h

  popped_led : (v : ℕ) (words : List ℕ) → Holds m (here c) (bytes_of (plain operations.ReturnPopped []))
      → Returned items.pushed (v ∷ words)
  unfolding perform return_popped
  popped_led v words h =
      let i = plain operations.ReturnPopped [] in
      let st = at_words (around c) m locals (v ∷ words) world.text in
      returns_to c callers counts (v ∷ words) (v ∷ words) v good.callers good.few
      (made c m (v ∷ words) (v ∷ words) world.text (here c) i [] (scratch_here c) (omega arith) bare_shaped h
      (no_operand st) ∙ rw (tops (around c) m locals world.text words v) refl)

  pub return_led : (o : items.Operand) (words : List ℕ) → IsOperandHere c o → ArrivesAt c (items.return o)
      → Returned o words
  return_led items.pushed [] is stands = tt
  return_led items.pushed (v ∷ words) is stands =
      popped_led v words (single c (items.return items.pushed) (return_code items.pushed) refl refl stands).held
  return_led (items.number n) words is stands =
      number_led n (n == 1) (n == 0) words refl refl
      (single c (items.return (items.number n)) (return_code (items.number n)) refl refl stands).held
  return_led (items.variable x) words is stands =
      ret_led (items.variable x) words is (single c (items.return (items.variable x)) (return_code (items.variable x))
      refl refl stands).held
