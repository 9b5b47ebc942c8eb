-- Items that give a relative of an object.
use Rattle.std.proofs.Common.{◌≡◌, ℕ, ◌+◌, ◌-◌, ◌<◌, ◌≤◌, List, [], ◌∷◌, length, Option, Some, Bool, true, false, refl}
use Rattle.std.proofs.Common.{ap, ◌∙◌, arith}
use Rattle.std.specs.Prelude.{nat_le, nat_lt, nat_eq}
use Rattle.std.proofs.lemmas.Bool.{lt-ltb, le-leb, ne_eqb}
use Rattle.zcore.specs.declared.instruction.Branch.{Branch}
use Rattle.zcore.specs.declared.instruction.Operand.{Operand}
use Rattle.zcore.specs.declared.instruction.Operand.TheVariants.{Large, Small, Variable}
use Rattle.zcore.specs.declared.instruction.Operation.{Operation}
use Rattle.zcore.specs.declared.instruction.Operation.TheVariants as operations
use Rattle.zcore.specs.declared.next.Next.{Next}
use Rattle.zcore.specs.Instruction.{Instruction}
use Rattle.zcore.specs.InstructionBytes.{bytes_of}
use Rattle.zcore.specs.State.{State, done}
use Rattle.zcore.specs.State as state
use Rattle.zcore.specs.Objects.{give_object}
use Rattle.zcore.specs.Parts.{test_result, store_result, write_variable, test_branch, test_taken, test_target}
use Rattle.zcore.specs.Parts.{branch_on}
use Rattle.zcore.specs.Execution.{perform}
use Rattle.syntax_trees.specs.declared.tree.Relative.{Relative}
use Rattle.syntax_trees.specs.declared.tree.Relative.TheVariants as relatives
use Rattle.meaning.specs.Objects.{relative_in}
use Rattle.meaning.specs.World as source
use Rattle.code_drafts.specs.Items.{Destination}
use Rattle.code_drafts.specs.Items as items
use Rattle.code_items.specs.Stack as stack
use Rattle.code_drafts.specs.Instructions.{number_of, aside_variable, result_in}
use Rattle.code_instructions.specs.ObjectCode.{giving_on, relative_of}
use Rattle.code.proofs.Memory.{with_variable}
use Rattle.code.proofs.Parts.{room_is, Around, machine as at_words, pushes, Writes, global_writes}
use Rattle.code.proofs.Steps.{point, leads_then, one_step, first_held, one_operand, landing, branches}
use Rattle.code.proofs.AddressLengths.{one_length}
use Rattle.code.proofs.Fitting.{Shaped}
use Rattle.code.proofs.Arriving.{Running, at, around, here, above, LedFrom, situation_here, room_for, ArrivesAt}
use Rattle.code.proofs.Variables.{memory_with, variable_held}
use Rattle.code.proofs.Temporaries.{Scratch, scratch_with, made}
use Rattle.code.proofs.Delivering.{result_small, memory_after, locals_after, stack_after, delivered_led}
use Rattle.code.proofs.Alone.{alone_count, IsOperandHere, IsHere, next_place, gives_here_led}
use Rattle.code.proofs.TestedWords.{AtIndex}
use Rattle.code.proofs.TestedObjects.{IsObjectHere, acts_in, begins, begun_end, object_tests, tests_led}

-- a branch to the next instruction
abbrev onward : Option Branch
onward = Some (record { when = true; offset = 2 })

test_onward : (after : ℕ) (b : Bool) (s : State) → 64 ≤ after → after < length s.memory
    → test_branch after onward b s ≡ done tt s
unfolding test_branch test_taken test_target
test_onward after true s above within =
    let f : after + 2 - 2 ≡ after = omega arith in
    let g : nat_le 64 after ≡ true = le-leb _ _ above in
    let h : nat_lt after (length s.memory) ≡ true = lt-ltb _ _ within in
    rw (f, g, h) refl
test_onward after false s above within = refl

lands_on : (b : Bool) (after : ℕ) → landing true b after 0 ≡ after
lands_on true after = omega arith
lands_on false after = refl

goes_onward : (here : Next) (after : ℕ) (b : Bool) (s : State) → here.program_counter < after → 64 ≤ after
    → after < length s.memory → branch_on here after onward b s ≡ done (point after here.fuel) s
goes_onward here after b s ahead above within =
    branches here after 0 true b s (omega arith) ahead above (omega (arith, within))
    ∙ ap (λ (n : ℕ). done (point n here.fuel) s) (lands_on b after)

-- an object that is pushed
object_top : (here : Next) (after w : ℕ) (e : Around) (m l s t : List ℕ)
    → length l + length s + state.words e.others < 65536 → here.program_counter < after → 64 ≤ after
    → after < length m
    → give_object here after (Some 0) onward w (at_words e m l s t)
    ≡ done (point after here.fuel) (at_words e m l (w ∷ s) t)
unfolding give_object test_result store_result write_variable
object_top here after w e m l s t room ahead above within =
    let a = room_is e m l t s room in
    rw (
      a,
      test_onward after (nat_le 1 w) (at_words e m l s t) above within,
      pushes e m l t s w room,
    ) (goes_onward here after (nat_le 1 w) (at_words e m l (w ∷ s) t) ahead above within)

-- one that goes to a variable
object_variable : (here : Next) (after v w : ℕ) (e : Around) (m l s t m1 l1 : List ℕ) → Writes e m l v w m1 l1
    → here.program_counter < after → 64 ≤ after → after < length m → after < length m1
    → give_object here after (Some v) onward w (at_words e m l s t)
    ≡ done (point after here.fuel) (at_words e m1 l1 s t)
unfolding give_object test_result store_result
object_variable here after v w e m l s t m1 l1 r ahead above within still =
    let a : nat_eq v 0 ≡ false = ne_eqb _ _ (λ h. omega (arith, h, r.named)) in
    rw (
      a,
      r.can,
      test_onward after (nat_le 1 w) (at_words e m l s t) above within,
      r.done_so s t,
    ) (goes_onward here after (nat_le 1 w) (at_words e m1 l1 s t) ahead above still)

module _ (c : Running) where
  open c use {story, a, p, accepted, holds, full, m, count, counts, routine, place, callers, locals, world, good}

  -- an object goes where it is to go
  object_given : (d : Destination) (word after q : ℕ) (rest other text : List ℕ) → IsHere c d → Scratch c other
      → length rest ≤ 48 → q < after → 64 ≤ q → after < length m
      → give_object (point q world.fuel) after (Some (result_in d)) onward word
      (at_words (around c) other locals rest text)
      ≡ done (point after world.fuel) (at_words (around c) (memory_after c d word other) (locals_after c d word)
      (stack_after c d word rest) text)
  object_given items.push word after q rest other text is scratch room ahead above within =
      object_top (point q world.fuel) after word (around c) other locals rest text
      (room_for c rest (omega (arith, room))) ahead (omega (arith, above, ahead))
      (omega (arith, within, scratch.stored.size, good.stored.size))
  object_given (items.into x) word after q rest other text is scratch room ahead above within =
      let held = variable_held c other x scratch is in
      object_variable (point q world.fuel) after (number_of x) word (around c) other locals rest text
      (memory_with c other x word) (source.with_value x word (situation_here c)).locals (held.writes word) ahead
      (omega (arith, above, ahead)) (omega (arith, within, scratch.stored.size, good.stored.size))
      (omega (arith, within, (held.stored word).size, good.stored.size))
  object_given items.aside word after q rest other text is scratch room ahead above within =
      let still = scratch_with c other aside_variable word scratch (omega arith) (omega arith) in
      object_variable (point q world.fuel) after aside_variable word (around c) other locals rest text
      (with_variable other aside_variable word) locals
      (global_writes (around c) other locals aside_variable word (omega arith) (omega arith)) ahead
      (omega (arith, above, ahead)) (omega (arith, within, scratch.stored.size, good.stored.size))
      (omega (arith, within, still.stored.size, good.stored.size))
  object_given items.nowhere word after q rest other text is scratch room ahead above within =
      let still = scratch_with c other 248 word scratch (omega arith) (omega arith) in
      object_variable (point q world.fuel) after 248 word (around c) other locals rest text
      (with_variable other 248 word) locals
      (global_writes (around c) other locals 248 word (omega arith) (omega arith)) ahead
      (omega (arith, above, ahead)) (omega (arith, within, scratch.stored.size, good.stored.size))
      (omega (arith, within, still.stored.size, good.stored.size))

  abbrev Given : Destination → ℕ → List ℕ → List ℕ → Type 0
  Given d w before rest =
      LedFrom c before (stack.deliver d w (stack.after (at c before) rest (situation_here c)))

  -- an instruction that gives an object and branches
  object_led : (op : Operation) (d : Destination) (w v : ℕ) (before rest : List ℕ) → IsHere c d → length rest ≤ 48
      → next_place c < length m
      → (t : AtIndex c v before rest m (λ x. giving_on op (x ∷ []) (result_in d) ∷ []))
      → Shaped (giving_on op (t.operand ∷ []) (result_in d))
      → 0 < length (bytes_of (giving_on op (t.operand ∷ []) (result_in d)))
      → ((after : ℕ)
      → perform op (point t.reached.q world.fuel) after (Some (result_in d)) onward (v ∷ [])
      (at_words (around c) t.reached.memory locals rest world.text)
      ≡ give_object (point t.reached.q world.fuel) after (Some (result_in d)) onward w
      (at_words (around c) t.reached.memory locals rest world.text))
      → Given d w before rest
  object_led op d w v before rest is room followed t shaped some performs =
      let r = t.reached in
      let i = giving_on op (t.operand ∷ []) (result_in d) in
      let after = r.q + length (bytes_of i) in
      let st = at_words (around c) r.memory locals rest world.text in
      let to = at_words (around c) (memory_after c d w r.memory) (locals_after c d w) (stack_after c d w rest)
      world.text in
      let end : after ≡ next_place c = omega (arith, t.end, one_length i) in
      delivered_led c d w after before rest r.memory is r.scratch room end
      (leads_then (point (here c) world.fuel) (point r.q world.fuel) (point after world.fuel)
      (at_words (around c) m locals before world.text) st to r.leads
      (one_step (point r.q world.fuel) (point after world.fuel) st to
      (made c r.memory rest rest world.text r.q i (v ∷ []) r.scratch r.from shaped (first_held m r.q i [] r.held)
      (one_operand st st t.operand v t.value)
      ∙ performs after
      ∙ object_given d w after r.q rest r.memory world.text is r.scratch room (omega (arith, some))
      (omega (arith, above c, r.from)) (omega (arith, end, followed)))))

  some_child : (x : Operand) (variable : ℕ)
      → 0 < length (bytes_of (giving_on operations.GetChild (x ∷ []) variable))
  unfolding bytes_of
  some_child (Large n) variable = omega arith
  some_child (Small n) variable = omega arith
  some_child (Variable n) variable = omega arith

  some_sibling : (x : Operand) (variable : ℕ)
      → 0 < length (bytes_of (giving_on operations.GetSibling (x ∷ []) variable))
  unfolding bytes_of
  some_sibling (Large n) variable = omega arith
  some_sibling (Small n) variable = omega arith
  some_sibling (Variable n) variable = omega arith

  relative_given : (r : Relative) (d : Destination) (v : ℕ) (before rest : List ℕ) → IsHere c d → length rest ≤ 48
      → next_place c < length m → IsObjectHere c v
      → AtIndex c v before rest m (λ x. relative_of r x (result_in d) ∷ [])
      → Given d (relative_in r v world.objects.tree) before rest
  unfolding perform
  relative_given relatives.Parent d v before rest is room followed object t =
      let r = t.reached in
      let i = relative_of relatives.Parent t.operand (result_in d) in
      let st = at_words (around c) r.memory locals rest world.text in
      gives_here_led c operations.GetParent (t.operand ∷ []) d (relative_in relatives.Parent v world.objects.tree) r.q
      before rest rest r.memory (v ∷ []) is r.scratch room r.from
      (record { least = omega arith; most = omega arith; result_fits = result_small d; branch_fits = tt })
      (first_held m r.q i [] r.held) (omega (arith, t.end, one_length i)) (one_operand st st t.operand v t.value)
      (λ after. (acts_in c r.memory rest world.text r.scratch).parent (point r.q world.fuel) after
      (Some (result_in d)) v object) r.leads
  relative_given relatives.Child d v before rest is room followed object t =
      let r = t.reached in
      object_led operations.GetChild d (relative_in relatives.Child v world.objects.tree) v before rest is room
      followed t
      (record { least = omega arith; most = omega arith; result_fits = result_small d; branch_fits = omega arith })
      (some_child t.operand (result_in d))
      (λ after. (acts_in c r.memory rest world.text r.scratch).child (point r.q world.fuel) after
      (Some (result_in d)) onward v object)
  relative_given relatives.Sibling d v before rest is room followed object t =
      let r = t.reached in
      object_led operations.GetSibling d (relative_in relatives.Sibling v world.objects.tree) v before rest is room
      followed t
      (record { least = omega arith; most = omega arith; result_fits = result_small d; branch_fits = omega arith })
      (some_sibling t.operand (result_in d))
      (λ after. (acts_in c r.memory rest world.text r.scratch).sibling (point r.q world.fuel) after
      (Some (result_in d)) onward v object)

  pub relative_led : (r : Relative) (o : items.Operand) (d : Destination) (s : List ℕ) → IsOperandHere c o
      → IsHere c d → length s ≤ 48 → ArrivesAt c (items.relative r o d)
      → LedFrom c s (stack.with_operand o (situation_here c) s
      (λ v rest. stack.gives (stack.relative_to p r v) d rest (at c s)))
  relative_led r o d s is is_d short stands =
      let item = items.relative r o d in
      let act : Operand → List Instruction = λ x. relative_of r x (result_in d) ∷ [] in
      tests_led c o s s m act (λ v. source.relative_of r v)
      (λ rest w situation. stack.deliver d w (stack.after (at c s) rest situation))
      (object_tests c o act s s m is (begins c item s stands) (begun_end c item s refl stands) stands.followed)
      (λ v rest alone object t.
      relative_given r d v s rest is_d (omega (arith, short, alone_count o (situation_here c) s v rest alone))
      stands.followed object t)
