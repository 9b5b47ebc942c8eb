-- Items that move an object into another.
use Rattle.std.proofs.Common.{◌≡◌, ℕ, ◌+◌, ◌<◌, ◌≤◌, List, [], ◌∷◌, ◌++◌, length, Bool, true, false, refl, sym, ◌∙◌}
use Rattle.std.proofs.Common.{subst, arith}
use Rattle.std.specs.Prelude.{if◌then◌else◌}
use Rattle.zcore.specs.declared.instruction.Operand.{Operand}
use Rattle.zcore.specs.declared.instruction.Operand.TheVariants.{Variable}
use Rattle.zcore.specs.declared.instruction.Operation.TheVariants as operations
use Rattle.zcore.specs.declared.place.Limit.TheVariants as limits
use Rattle.zcore.specs.declared.place.Place.TheVariants as places
use Rattle.zcore.specs.Instruction.{Instruction}
use Rattle.zcore.specs.InstructionBytes.{bytes_of}
use Rattle.zcore.specs.Execution.{perform}
use Rattle.meaning.specs.declared.cause.Cause.TheVariants as causes
use Rattle.meaning.specs.Objects.{Objects, Climbed, clear, inside, spent, climb, moved}
use Rattle.meaning.specs.World.{Situation, bound, ◌>>=◌, move_by, with_tree}
use Rattle.meaning.specs.World as source
use Rattle.code_drafts.specs.Items as items
use Rattle.code_items.specs.Stack as stack
use Rattle.code.specs.Tables.{PropertyTable}
use Rattle.code_drafts.specs.Addresses.{fault_address}
use Rattle.code_drafts.specs.Instructions.{plain, store, word_in}
use Rattle.code_instructions.specs.ObjectCode.{tested_in, climbing, at_object}
use Rattle.code.proofs.Memory.{word_of, with_variable}
use Rattle.code.proofs.Parts.{machine as at_words}
use Rattle.code.proofs.Steps.{point, leads_then, one_step, first_held, two_operands, variable_value}
use Rattle.code.proofs.Ends.{does_after, does_halt}
use Rattle.code.proofs.Texts.{cause_line}
use Rattle.code.proofs.AddressLengths.{one_length}
use Rattle.code.proofs.Arriving.{Running, at, around, here, LedFrom, arrives_on, situation_here, ArrivesAt}
use Rattle.code.proofs.Temporaries.{word_written, word_unwritten, made_at}
use Rattle.code.proofs.Alone.{by_operand, alone_count, IsOperandHere, next_place}
use Rattle.code.proofs.ItemsThatPrint.{fails_at}
use Rattle.code.proofs.StoringSteps.{after_bound}
use Rattle.code.proofs.TestedObjects.{IsObjectHere, objects_here, objects_are, object_same, object_is, object_tests}
use Rattle.code.proofs.TestedObjects.{tests_led}
use Rattle.code.proofs.Working.{Works, HoldsWord, fault_led, reads_word, word_value, word_still, sets}
use Rattle.code.proofs.Changing.{stored_objects}
use Rattle.code.proofs.Providing.{acts_on}
use Rattle.code.proofs.Bounding.{Bounded, operand_bounds}
use Rattle.code.proofs.Pulling.{opens, pulls, works_at}
use Rattle.code.proofs.ClimbingSteps.{turning, Turns, turns}
use Rattle.code.proofs.Climbing.{Rose, Climbs, climbs}

module _ (c : Running) where
  open c use {story, a, p, accepted, holds, full, m, count, counts, routine, place, callers, locals, world, good}

  abbrev inserting : items.Operand → Instruction
  inserting into = plain operations.InsertObject (Variable 250 ∷ word_in 1 into ∷ [])

  abbrev rising : items.Operand → Operand → List Instruction
  rising into y = climbing a y ++ plain operations.InsertObject (Variable 250 ∷ y ∷ []) ∷ []

  abbrev moving : items.Operand → Operand → List Instruction
  moving into x = store 250 x ∷ tested_in 1 a causes.NotAnObject 1 (objects_here c + 1) into (rising into)

  abbrev onward : List ℕ → List ℕ → Unit {0} → Situation → stack.Next
  onward before rest _ situation = stack.goes (stack.after (at c before) rest situation)

  module _ (v x : ℕ) (into : items.Operand) (before rest : List ℕ) (known : IsObjectHere c v)
      (is : IsOperandHere c into) (room : length rest ≤ 48) (followed : next_place c < length m)
      (tables : List PropertyTable) where
    -- the loop begins
    module _ (memory : List ℕ) (q : ℕ) (other_known : IsObjectHere c x) (object : word_of memory 250 ≡ v)
        (at_there : word_of memory 251 ≡ x) (word : HoldsWord c 1 into x memory)
        (t : Works c tables before rest memory q (turning c (inserting into ∷ []))) where
      parts : Turns c q (inserting into ∷ [])
      parts = turns c q (inserting into ∷ []) t.held

      size : q + 17 + length (bytes_of (inserting into)) ≡ next_place c
      size = omega (arith, t.end, parts.size, one_length (inserting into))

      -- the object may go there
      inserted_led : (left : ℕ)
          → Rose c rest q v (inserting into ∷ []) t.held t.from (omega (arith, size, followed)) tables world.fuel left
          memory
          → LedFrom c before (stack.after_part (move_by v x (clear left) (situation_here c)) (onward before rest))
      unfolding perform
      inserted_led left r =
          let i = inserting into in
          let there = q + 17 in
          let after = there + length (bytes_of i) in
          let st = at_words (around c) r.memory locals rest world.text in
          let objects : Objects = record (world.objects) { tree = moved v x world.objects.tree } in
          let change = (acts_on c tables r.memory rest r.has).moves (point there left) after v x known other_known in
          let to = at_words (around c) change.memory locals rest world.text in
          let still = word_still c 1 into x memory r.memory (r.others 249 (omega arith) (λ f. omega (arith, f))) word in
          let makes = made_at c left r.memory rest rest world.text there i (v ∷ x ∷ []) r.scratch
          (omega (arith, t.from))
          (record { least = omega arith; most = omega arith; result_fits = tt; branch_fits = tt })
          (first_held m there i [] parts.behind)
          (two_operands st st st (Variable 250) (word_in 1 into) v x
          (variable_value (around c) r.memory locals rest world.text 250 v
          (reads_word c r.memory 250 v (omega arith) (omega arith) r.object))
          (word_value c 1 into x r.memory rest (omega arith) r.scratch is still)) in
          arrives_on c before rest change.memory
          (with_tree (moved v x world.objects.tree)
          (record { locals = locals; world = record world { fuel = left } })) after size room
          (stored_objects c r.memory change.memory r.scratch change.keeps objects change.tables change.has)
          refl refl refl
          (leads_then (point (here c) world.fuel) (point q world.fuel) (point after left)
          (at_words (around c) m locals before world.text) (at_words (around c) memory locals rest world.text) to
          t.leads (leads_then (point q world.fuel) (point there left) (point after left)
          (at_words (around c) memory locals rest world.text) st to r.leads
          (one_step (point there left) (point after left) st to (makes ∙ change.does))))

      -- by what the loop comes to
      climbed_led : (result : Climbed)
          → Climbs c rest q v (inserting into ∷ []) t.held t.from (omega (arith, size, followed)) tables result
          world.fuel memory
          → LedFrom c before (stack.after_part (move_by v x result (situation_here c)) (onward before rest))
      climbed_led (clear left) r = inserted_led left r
      climbed_led inside r =
          fails_at c causes.ObjectInsideItself (fault_address a causes.ObjectInsideItself) (q + 13) r.left before rest
          r.memory (onward before rest) (cause_line causes.ObjectInsideItself) (holds.faults causes.ObjectInsideItself)
          (omega (arith, t.from)) r.scratch parts.fault
          (leads_then (point (here c) world.fuel) (point q world.fuel) (point (q + 13) r.left)
          (at_words (around c) m locals before world.text) (at_words (around c) memory locals rest world.text)
          (at_words (around c) r.memory locals rest world.text) t.leads r.leads)
      climbed_led spent r =
          does_after full world _ (point (here c) world.fuel) (point r.there 0)
          (at_words (around c) m locals before world.text) (at_words (around c) r.memory locals rest world.text)
          (leads_then (point (here c) world.fuel) (point q world.fuel) (point r.there 0)
          (at_words (around c) m locals before world.text) (at_words (around c) memory locals rest world.text)
          (at_words (around c) r.memory locals rest world.text) t.leads r.leads)
          (does_halt full world (point r.there 0) (at_words (around c) r.memory locals rest world.text)
          (at_words (around c) r.memory locals rest world.text) (places.Limit limits.Fuel) refl r.stops)

      pub loop_led : LedFrom c before
          (stack.after_part (source.move_object v x (situation_here c)) (onward before rest))
      loop_led =
          climbed_led (climb world.objects.tree.parent v x world.fuel)
          (climbs c rest q v (inserting into ∷ []) t.held t.from (omega (arith, size, followed)) tables world.fuel x
          memory t.scratch t.has object at_there other_known)

    -- the other object is tested
    other_led : (memory : List ℕ) → (b : Bool) → source.is_object (length p.objects) x ≡ b
        → word_of memory 250 ≡ v → HoldsWord c 1 into x memory
        → Bounded c b causes.NotAnObject tables before rest memory (rising into (word_in 1 into))
        → LedFrom c before (stack.after_part
        (bound {A = Unit {0}} ((if b then source.give tt else source.fault causes.NotAnObject) (situation_here c))
        (λ _. source.move_object v x)) (onward before rest))
    other_led memory true e object word t =
        let set = sets c tables before rest memory t.there 251 x (word_in 1 into) (turning c (inserting into ∷ []))
        (omega arith) (omega arith) (word_value c 1 into x memory rest (omega arith) t.works.scratch is word) t.works in
        loop_led (with_variable memory 251 x) (t.there + length (bytes_of (store 251 (word_in 1 into))))
        (object_is c x e)
        (word_unwritten c memory 251 x 250 t.works.scratch (omega arith) (omega arith) (omega arith)
        (λ f. omega (arith, f)) ∙ object)
        (word_written c memory 251 x t.works.scratch (omega arith) (omega arith))
        (word_still c 1 into x memory (with_variable memory 251 x)
        (word_unwritten c memory 251 x 249 t.works.scratch (omega arith) (omega arith) (omega arith)
        (λ f. omega (arith, f))) word) set
    other_led memory false e object word t =
        subst (LedFrom c before)
        (sym (after_bound {A = Unit {0}} (source.fault causes.NotAnObject (situation_here c))
        (λ _. source.move_object v x) (onward before rest)))
        (fault_led c causes.NotAnObject before
        (λ _ situation. stack.after_part (source.move_object v x situation) (onward before rest)) t)

  pub move_object_led : (b into : items.Operand) (s : List ℕ) → IsOperandHere c b → IsOperandHere c into
      → length s ≤ 48 → ArrivesAt c (items.move_object b into)
      → LedFrom c s (stack.with_operand into (situation_here c) s
      (λ x left. stack.with_operand b (situation_here c) left
      (λ v rest. stack.prints (stack.moves_object p v x) rest (at c s))))
  move_object_led b into s is is_into short stands =
      let item = items.move_object b into in
      by_operand into (situation_here c) s (LedFrom c s)
      (λ x left. stack.with_operand b (situation_here c) left
      (λ v rest. stack.prints (stack.moves_object p v x) rest (at c s))) tt
      (λ x left first.
      let h = opens c item s refl stands in
      let act : Operand → List Instruction = moving into in
      let k = pulls c 1 into (at_object a (objects_here c) b act) s s m x left (omega arith) (omega arith) first
      h.reached h.end in
      tests_led c b s left k.memory act
      (λ v. source.test_object (length p.objects) x >>= λ _. source.move_object v x)
      (λ rest. onward s rest)
      (object_tests c b act s left k.memory is k.reached k.end stands.followed)
      (λ v rest second known t.
      let memory = t.reached.memory in
      let tables = t.reached.scratch.stored.tables in
      let after = tested_in 1 a causes.NotAnObject 1 (objects_here c + 1) into (rising into) in
      let w = sets c tables s rest memory t.reached.q 250 v t.operand after (omega arith) (omega arith) t.value
      (works_at c v s rest k.memory act t) in
      let m1 = with_variable memory 250 v in
      let word = word_still c 1 into x memory m1
      (word_unwritten c memory 250 v 249 t.reached.scratch (omega arith) (omega arith) (omega arith)
      (λ f. omega (arith, f)))
      (word_still c 1 into x k.memory memory (t.reached.unwritten 249 (omega arith) (omega arith)) k.word) in
      other_led v x into s rest known is_into
      (omega (
        arith,
        short,
        alone_count into (situation_here c) s x left first,
        alone_count b (situation_here c) left v rest second,
      )) stands.followed tables m1 (source.is_object (length p.objects) x) refl
      (word_written c memory 250 v t.reached.scratch (omega arith) (omega arith)) word
      (subst (λ y. Bounded c y causes.NotAnObject tables s rest m1 (rising into (word_in 1 into))) (object_same c x)
      (operand_bounds c 1 causes.NotAnObject tables s rest m1
      (t.reached.q + length (bytes_of (store 250 t.operand))) x 1 (objects_here c + 1) into (rising into) (omega arith)
      stands.followed (omega arith) (omega (arith, objects_are c, accepted.few)) is_into word w))))
