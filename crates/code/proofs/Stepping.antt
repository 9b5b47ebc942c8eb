-- Items that step a variable.
use Rattle.std.proofs.Common.{◌≡◌, ℕ, ◌+◌, ◌<◌, ◌≤◌, List, [], ◌∷◌, length, drop, Some, refl, ap, ◌∙◌, subst, arith}
use Rattle.std.proofs.Common.{length-append}
use Rattle.std.specs.Prelude.{map}
use Rattle.std.specs.List.{flat_map}
use Rattle.zcore.specs.declared.instruction.Operand.TheVariants.{Small, Variable}
use Rattle.zcore.specs.Header.{static_base_of}
use Rattle.zcore.specs.Instruction.{Instruction}
use Rattle.zcore.specs.InstructionBytes.{bytes_of}
use Rattle.zcore.specs.State.{done, words}
use Rattle.zcore.specs.Parts.{operand_values}
use Rattle.zcore.specs.Execution.{step, perform, push_word}
use Rattle.syntax_trees.specs.declared.tree.Step.{Step}
use Rattle.syntax_trees.specs.declared.tree.Step.TheVariants as steps
use Rattle.meaning.specs.declared.resolved.Variable as source
use Rattle.meaning.specs.World.{Situation, value_in, with_value}
use Rattle.meaning.specs.Meaning.{stepped}
use Rattle.code_drafts.specs.Items.{Item, Destination}
use Rattle.code_drafts.specs.Items as items
use Rattle.code_items.specs.Stack as stack
use Rattle.code_drafts.specs.Instructions.{number_of, aside_variable, push, store}
use Rattle.code_instructions.specs.Instructions.{stepping}
use Rattle.code.specs.ItemBytes.{text_bytes}
use Rattle.code.proofs.Behind.{Holds, holds_on}
use Rattle.code.proofs.Play.{moves, none_aside}
use Rattle.code.proofs.Memory.{with_variable}
use Rattle.code.proofs.Parts.{machine as at_words, pushes, global_writes}
use Rattle.code.proofs.Steps.{point, one_step, first_held, others_held, one_operand, two_operands, small_value}
use Rattle.code.proofs.Steps.{variable_value, step_is}
use Rattle.code.proofs.SingleSteps.{increment_step, decrement_step}
use Rattle.code.proofs.Fitting.{Shaped, held_bytes, encodable}
use Rattle.code.proofs.Arriving.{Running, at, around, here, high, kept, LedFrom, room_for, code_here, code_held}
use Rattle.code.proofs.Arriving.{ArrivesAt, situation_here}
use Rattle.code.proofs.Variables.{memory_with, Held, variable_held}
use Rattle.code.proofs.Temporaries.{scratch_here, scratch_with}
use Rattle.code.proofs.Delivering.{held_aside, stored_step}
use Rattle.code.proofs.Alone.{IsHere, next_place, plain_length, single}
use Rattle.code.proofs.Moving.{fuel_same, text_same, IsVariableHere, written_with, written_led, within_led}

module _ (c : Running) where
  open c use {story, a, p, accepted, holds, full, m, count, counts, routine, place, callers, locals, world, good}

  abbrev new_word : Step → source.Variable → ℕ
  new_word op x = stepped op (value_in x (situation_here c))

  abbrev new_situation : Step → source.Variable → Situation
  new_situation op x = with_value x (new_word op x) (situation_here c)

  abbrev new_memory : Step → source.Variable → List ℕ
  new_memory op x = memory_with c m x (new_word op x)

  -- a variable is stepped
  step_step : (op : Step) (x : source.Variable) (s : List ℕ) → Held c m x
      → Holds m (here c) (bytes_of (stepping op x))
      → step (point (here c) world.fuel) (at_words (around c) m locals s world.text)
      ≡ done (point (here c + length (bytes_of (stepping op x))) world.fuel)
      (at_words (around c) (new_memory op x) (new_situation op x).locals s world.text)
  step_step steps.Increment x s held h =
      increment_step (around c) world.fuel m locals s world.text (new_memory steps.Increment x)
      (new_situation steps.Increment x).locals (here c) (number_of x) (value_in x (situation_here c)) held.reads
      (held.writes (new_word steps.Increment x)) h
  step_step steps.Decrement x s held h =
      decrement_step (around c) world.fuel m locals s world.text (new_memory steps.Decrement x)
      (new_situation steps.Decrement x).locals (here c) (number_of x) (value_in x (situation_here c)) held.reads
      (held.writes (new_word steps.Decrement x)) h

  -- the routine with the variable stepped
  abbrev with_step : (op : Step) (x : source.Variable) → Held c m x → Running
  with_step op x held = record {
    story = story;
    a = a;
    p = p;
    accepted = accepted;
    holds = holds;
    full = full;
    m = new_memory op x;
    count = count;
    counts = counts;
    routine = routine;
    place = place;
    callers = callers;
    locals = (new_situation op x).locals;
    world = (new_situation op x).world;
    good = record {
      known = good.known;
      locals = held.locals_same (new_word op x) ∙ good.locals;
      room = omega arith;
      callers = good.callers;
      few = good.few;
      globals = held.globals_same (new_word op x) ∙ good.globals;
      sizes = ap (map length) (held.arrays_same (new_word op x)) ∙ good.sizes;
      stored = held.stored (new_word op x);
      put_aside = none_aside story (new_memory op x);
    };
  }

  -- the two instructions of a step whose word goes on stand here
  record Pair (i j : Instruction) : Type 0 where
    first : Holds m (here c) (bytes_of i)
    second : Holds m (here c + length (bytes_of i)) (bytes_of j)
    end : here c + length (bytes_of i) + length (bytes_of j) ≡ next_place c

  pair : (item : Item) (i j : Instruction) → code_here c item ≡ i ∷ j ∷ []
      → length (flat_map bytes_of (code_here c item)) ≡ length (flat_map bytes_of (i ∷ j ∷ []))
      → text_bytes p.abbreviations item ≡ []
      → ArrivesAt c item → Pair i j
  pair item i j is size none stands =
      let all = subst (λ is. Holds m (here c) (flat_map bytes_of is)) is (code_held c item stands) in
      let second = others_held m (here c) i (j ∷ []) all in
      record {
        first = first_held m (here c) i (j ∷ []) all;
        second = first_held m (here c + length (bytes_of i)) j [] second;
        end = omega (
          arith,
          stands.next,
          plain_length c item none,
          size,
          length-append (bytes_of i) (flat_map bytes_of (j ∷ [])),
          length-append (bytes_of j) [],
        );
      }

  -- the step of an instruction where locals have changed
  made_in : (l0 other s text : List ℕ) (q : ℕ) (i : Instruction) (values : List ℕ)
      → drop (static_base_of story) other ≡ drop (static_base_of story) m → here c ≤ q → Shaped i
      → Holds m q (bytes_of i)
      → operand_values i.operands (at_words (around c) other l0 s text)
      ≡ done values (at_words (around c) other l0 s text)
      → step (point q world.fuel) (at_words (around c) other l0 s text)
      ≡ perform i.operation (point q world.fuel) (q + length (bytes_of i)) i.result i.branch values
      (at_words (around c) other l0 s text)
  made_in l0 other s text q i values same from shaped h is =
      step_is (point q world.fuel) (at_words (around c) other l0 s text) (at_words (around c) other l0 s text) i
      values
      (encodable i shaped (held_bytes (static_base_of story) q story m (bytes_of i) holds.byte_each (kept c)
      (omega (arith, high c, from)) h))
      (holds_on (static_base_of story) q m other (bytes_of i) same (omega (arith, high c, from)) h) is

  step_push_led : (op : Step) (x : source.Variable) (s : List ℕ) → IsVariableHere c x → length s ≤ 48
      → ArrivesAt c (items.step op x items.push)
      → LedFrom c s (stack.deliver items.push (new_word op x) (stack.after (at c s) s (new_situation op x)))
  unfolding perform push_word
  step_push_led op x s is short stands =
      let held = variable_held c m x (scratch_here c) is in
      let w = new_word op x in
      let m1 = new_memory op x in
      let l1 = (new_situation op x).locals in
      let i = stepping op x in
      let j = push (Variable (number_of x)) in
      let both = pair (items.step op x items.push) i j refl refl refl stands in
      let q = here c + length (bytes_of i) in
      let shaped : Shaped j = record { least = omega arith; most = omega arith; result_fits = tt; branch_fits = tt } in
      let st = at_words (around c) m1 l1 s world.text in
      let makes = made_in l1 m1 s world.text q j (w ∷ []) (held.kept w) (omega arith) shaped both.second
      (one_operand st st (Variable (number_of x)) w (variable_value (around c) m1 l1 s world.text (number_of x) w
      (held.again w))) in
      let room : length l1 + length s + words (around c).others < 65536 =
      omega (arith, room_for c s (omega (arith, short)), held.locals_same w) in
      within_led c s (w ∷ s) m1 (new_situation op x) (q + length (bytes_of j)) both.end (held.stored w)
      (held.locals_same w) (held.globals_same w) (ap (map length) (held.arrays_same w))
      (fuel_same x w (situation_here c)) (text_same x w (situation_here c))
      (moves (point (here c) world.fuel) (point q world.fuel) (point (q + length (bytes_of j)) world.fuel)
      (at_words (around c) m locals s world.text) st (at_words (around c) m1 l1 (w ∷ s) world.text)
      (step_step op x s held both.first)
      (one_step (point q world.fuel) (point (q + length (bytes_of j)) world.fuel) st
      (at_words (around c) m1 l1 (w ∷ s) world.text)
      (makes ∙ rw (pushes (around c) m1 l1 world.text s w room) refl)))

  step_into_led : (op : Step) (x y : source.Variable) (s : List ℕ) → IsVariableHere c x → IsVariableHere c y
      → length s ≤ 48
      → ArrivesAt c (items.step op x (items.into y))
      → LedFrom c s (stack.deliver (items.into y) (new_word op x) (stack.after (at c s) s (new_situation op x)))
  unfolding perform
  step_into_led op x y s is is_y short stands =
      let held = variable_held c m x (scratch_here c) is in
      let w = new_word op x in
      let m1 = new_memory op x in
      let l1 = (new_situation op x).locals in
      let d = with_step op x held in
      let next = variable_held d m1 y (scratch_here d) is_y in
      let i = stepping op x in
      let j = store (number_of y) (Variable (number_of x)) in
      let both = pair (items.step op x (items.into y)) i j refl refl refl stands in
      let q = here c + length (bytes_of i) in
      let shaped : Shaped j = record { least = omega arith; most = omega arith; result_fits = tt; branch_fits = tt } in
      let st = at_words (around c) m1 l1 s world.text in
      let makes = made_in l1 m1 s world.text q j (number_of y ∷ w ∷ []) (held.kept w) (omega arith) shaped both.second
      (two_operands st st st (Small (number_of y)) (Variable (number_of x)) (number_of y) w
      (small_value st (number_of y)) (variable_value (around c) m1 l1 s world.text (number_of x) w (held.again w))) in
      let m2 = memory_with d m1 y w in
      let to = with_value y w (new_situation op x) in
      written_led c s s m2 to (q + length (bytes_of j)) both.end short (next.stored w) (next.locals_same w
      ∙ held.locals_same w) (next.globals_same w ∙ held.globals_same w)
      (ap (map length) (next.arrays_same w ∙ held.arrays_same w))
      (fuel_same y w (new_situation op x) ∙ fuel_same x w (situation_here c)) (text_same y w (new_situation op x)
      ∙ text_same x w (situation_here c))
      (moves (point (here c) world.fuel) (point q world.fuel) (point (q + length (bytes_of j)) world.fuel)
      (at_words (around c) m locals s world.text) st (at_words (around c) m2 to.locals s world.text)
      (step_step op x s held both.first)
      (one_step (point q world.fuel) (point (q + length (bytes_of j)) world.fuel) st
      (at_words (around c) m2 to.locals s world.text)
      (makes ∙ stored_step d (point q world.fuel) (q + length (bytes_of j)) (number_of y) w s world.text m1 m2
      to.locals
      (next.writes w))))

  step_aside_led : (op : Step) (x : source.Variable) (s : List ℕ) → IsVariableHere c x → length s ≤ 48
      → ArrivesAt c (items.step op x items.aside)
      → LedFrom c s (stack.deliver items.aside (new_word op x) (stack.after (at c s) s (new_situation op x)))
  unfolding perform
  step_aside_led op x s is short stands =
      let held = variable_held c m x (scratch_here c) is in
      let w = new_word op x in
      let m1 = new_memory op x in
      let l1 = (new_situation op x).locals in
      let d = with_step op x held in
      let i = stepping op x in
      let j = store aside_variable (Variable (number_of x)) in
      let both = pair (items.step op x items.aside) i j refl refl refl stands in
      let q = here c + length (bytes_of i) in
      let shaped : Shaped j = record { least = omega arith; most = omega arith; result_fits = tt; branch_fits = tt } in
      let st = at_words (around c) m1 l1 s world.text in
      let makes = made_in l1 m1 s world.text q j (aside_variable ∷ w ∷ []) (held.kept w) (omega arith) shaped both.second
      (two_operands st st st (Small aside_variable) (Variable (number_of x)) aside_variable w
      (small_value st aside_variable) (variable_value (around c) m1 l1 s world.text (number_of x) w (held.again w))) in
      let m2 = with_variable m1 aside_variable w in
      let after = scratch_with d m1 aside_variable w (scratch_here d) (omega arith) (omega arith) in
      written_with c (Some w) s s m2 (new_situation op x) (q + length (bytes_of j)) (held_aside d m1 w (scratch_here d))
      both.end short after.stored (held.locals_same w) (held.globals_same w) (ap (map length) (held.arrays_same w))
      (fuel_same x w (situation_here c)) (text_same x w (situation_here c))
      (moves (point (here c) world.fuel) (point q world.fuel) (point (q + length (bytes_of j)) world.fuel)
      (at_words (around c) m locals s world.text) st (at_words (around c) m2 l1 s world.text)
      (step_step op x s held both.first)
      (one_step (point q world.fuel) (point (q + length (bytes_of j)) world.fuel) st
      (at_words (around c) m2 l1 s world.text)
      (makes ∙ stored_step d (point q world.fuel) (q + length (bytes_of j)) aside_variable w s world.text m1 m2 l1
      (global_writes (around c) m1 l1 aside_variable w (omega arith) (omega arith)))))

  pub step_led : (op : Step) (x : source.Variable) (d : Destination) (s : List ℕ) → IsVariableHere c x → IsHere c d
      → length s ≤ 48 → ArrivesAt c (items.step op x d)
      → LedFrom c s (stack.deliver d (new_word op x) (stack.after (at c s) s (new_situation op x)))
  step_led op x items.push s is is_d short stands = step_push_led op x s is short stands
  step_led op x (items.into y) s is is_d short stands = step_into_led op x y s is is_d short stands
  step_led op x items.aside s is is_d short stands = step_aside_led op x s is short stands
  step_led op x items.nowhere s is is_d short stands =
      let held = variable_held c m x (scratch_here c) is in
      let w = new_word op x in
      let there = single c (items.step op x items.nowhere) (stepping op x) refl refl stands in
      let end = here c + length (bytes_of (stepping op x)) in
      written_led c s s (new_memory op x) (new_situation op x) end there.end short (held.stored w)
      (held.locals_same w)
      (held.globals_same w) (ap (map length) (held.arrays_same w))
      (fuel_same x w (situation_here c)) (text_same x w (situation_here c))
      (one_step (point (here c) world.fuel) (point end world.fuel) (at_words (around c) m locals s world.text)
      (at_words (around c) (new_memory op x) (new_situation op x).locals s world.text)
      (step_step op x s held there.held))
