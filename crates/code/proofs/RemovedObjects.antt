-- Items that take an object out of the one that it stands in.
use Rattle.std.proofs.Common.{ℕ, ◌+◌, ◌≤◌, List, [], ◌∷◌, length, refl, ◌∙◌, arith}
use Rattle.zcore.specs.declared.instruction.Operand.{Operand}
use Rattle.zcore.specs.declared.instruction.Operation.TheVariants as operations
use Rattle.zcore.specs.Instruction.{Instruction}
use Rattle.zcore.specs.InstructionBytes.{bytes_of}
use Rattle.zcore.specs.Execution.{perform}
use Rattle.meaning.specs.Objects.{removed}
use Rattle.meaning.specs.World.{with_objects}
use Rattle.meaning.specs.World as source
use Rattle.code_drafts.specs.Items as items
use Rattle.code_items.specs.Stack as stack
use Rattle.code_drafts.specs.Instructions.{plain}
use Rattle.code.proofs.Parts.{machine as at_words}
use Rattle.code.proofs.Steps.{point, leads_then, one_step, first_held, one_operand}
use Rattle.code.proofs.AddressLengths.{one_length}
use Rattle.code.proofs.Fitting.{Shaped}
use Rattle.code.proofs.Arriving.{Running, at, around, here, LedFrom, situation_here, arrives_on, ArrivesAt}
use Rattle.code.proofs.Temporaries.{made}
use Rattle.code.proofs.Alone.{alone_count, IsOperandHere}
use Rattle.code.proofs.TestedWords.{AtIndex}
use Rattle.code.proofs.TestedObjects.{IsObjectHere, acts_in, begins, begun_end, object_tests, tests_led}
use Rattle.code.proofs.Changing.{stored_objects}

module _ (c : Running) where
  open c use {story, a, p, accepted, holds, full, m, count, counts, routine, place, callers, locals, world, good}

  object_removed : (v : ℕ) (before rest : List ℕ) → length rest ≤ 48 → IsObjectHere c v
      → AtIndex c v before rest m (λ x. plain operations.RemoveObject (x ∷ []) ∷ [])
      → LedFrom c before (stack.prints (source.remove_object v) rest (at c before))
  unfolding perform
  object_removed v before rest room object t =
      let r = t.reached in
      let i = plain operations.RemoveObject (t.operand ∷ []) in
      let end = r.q + length (bytes_of i) in
      let st = at_words (around c) r.memory locals rest world.text in
      let objects = record (world.objects) { tree = removed v world.objects.tree } in
      let shaped : Shaped i = record { least = omega arith; most = omega arith; result_fits = tt; branch_fits = tt } in
      let makes = made c r.memory rest rest world.text r.q i (v ∷ []) r.scratch r.from shaped
      (first_held m r.q i [] r.held) (one_operand st st t.operand v t.value) in
      let change = (acts_in c r.memory rest world.text r.scratch).removes (point r.q world.fuel) end v object in
      let to = at_words (around c) change.memory locals rest world.text in
      arrives_on c before rest change.memory (with_objects objects (situation_here c)) end
      (omega (arith, t.end, one_length i)) room
      (stored_objects c r.memory change.memory r.scratch change.keeps objects change.tables change.has) refl refl refl
      (leads_then (point (here c) world.fuel) (point r.q world.fuel) (point end world.fuel)
      (at_words (around c) m locals before world.text) st to r.leads
      (one_step (point r.q world.fuel) (point end world.fuel) st to (makes ∙ change.does)))

  pub remove_object_led : (o : items.Operand) (s : List ℕ) → IsOperandHere c o → length s ≤ 48
      → ArrivesAt c (items.remove_object o)
      → LedFrom c s (stack.with_operand o (situation_here c) s
      (λ v rest. stack.prints (stack.removes_object p v) rest (at c s)))
  remove_object_led o s is room stands =
      let item = items.remove_object o in
      let act : Operand → List Instruction = λ x. plain operations.RemoveObject (x ∷ []) ∷ [] in
      tests_led c o s s m act (λ v. source.remove_object v)
      (λ rest _ situation. stack.goes (stack.after (at c s) rest situation))
      (object_tests c o act s s m is (begins c item s stands) (begun_end c item s refl stands) stands.followed)
      (λ v rest alone object t.
      object_removed v s rest (omega (arith, room, alone_count o (situation_here c) s v rest alone)) object t)
