-- Items that move, keep and drop words.
use Rattle.std.proofs.Common.{◌≡◌, ℕ, ◌+◌, ◌≤◌, List, [], ◌∷◌, length, Bool, true, false, refl, sym, ap, ◌∙◌, Option}
use Rattle.std.proofs.Common.{None, subst, arith}
use Rattle.std.specs.Prelude.{nat_le, if◌then◌else◌, map}
use Rattle.std.proofs.lemmas.Bool.{leb-true}
use Rattle.zcore.specs.declared.instruction.Operand.TheVariants.{Small}
use Rattle.zcore.specs.InstructionBytes.{bytes_of}
use Rattle.zcore.specs.Execution.{perform, push_word}
use Rattle.meaning.specs.declared.resolved.Variable as source
use Rattle.meaning.specs.declared.resolved.Variable.TheVariants as variables
use Rattle.meaning.specs.World.{Situation, with_value}
use Rattle.meaning.specs.Meaning.{routine_at}
use Rattle.meaning.specs.Accepted.{IsVariable}
use Rattle.code_drafts.specs.Items.{Destination}
use Rattle.code_drafts.specs.Items as items
use Rattle.code_items.specs.Stack as stack
use Rattle.code_drafts.specs.Instructions.{number_of, in_place, aside_variable, result_in, push, pull, copy, store}
use Rattle.code.proofs.Play.{Leads, Stored, HoldsAside, none_aside}
use Rattle.code.proofs.Memory.{with_variable}
use Rattle.code.proofs.Parts.{machine as at_words, pushes, Writes, global_writes}
use Rattle.code.proofs.Steps.{point, one_step, one_operand, two_operands, small_value}
use Rattle.code.proofs.SingleSteps.{pull_step, pull_below_step, copy_step}
use Rattle.code.proofs.Fitting.{Shaped}
use Rattle.code.proofs.Arriving.{Running, at, at_aside, around, here, LedFrom, room_for, code_here, arrives, ArrivesAt}
use Rattle.code.proofs.Arriving.{arrives_with, situation_here}
use Rattle.code.proofs.Variables.{memory_with, variable_held}
use Rattle.code.proofs.Temporaries.{scratch_here, made}
use Rattle.code.proofs.Delivering.{memory_after, locals_after, stack_after, delivered_led, stored_step}
use Rattle.code.proofs.Alone.{by_operand, alone_count, alone_value, IsOperandHere, IsHere, next_place, single}

pub fuel_same : (x : source.Variable) (word : ℕ) (s : Situation) → (with_value x word s).world.fuel ≡ s.world.fuel
fuel_same (variables.Local i) word s = refl
fuel_same (variables.Global g) word s = refl

pub text_same : (x : source.Variable) (word : ℕ) (s : Situation) → (with_value x word s).world.text ≡ s.world.text
text_same (variables.Local i) word s = refl
text_same (variables.Global g) word s = refl

module _ (c : Running) where
  open c use {story, a, p, accepted, holds, full, m, count, counts, routine, place, callers, locals, world, good}

  -- Moves

  abbrev Moved : items.Operand → Destination → List ℕ → Type 0
  Moved o d s = LedFrom c s (stack.with_operand o (situation_here c) s
      (λ v rest. stack.deliver d v (stack.after (at c s) rest (situation_here c))))

  push_led : (o : items.Operand) (s : List ℕ) → IsOperandHere c o → length s ≤ 48
      → ArrivesAt c (items.move o items.push)
      → Moved o items.push s
  unfolding perform push_word
  push_led o s is short stands =
      by_operand o (situation_here c) s (LedFrom c s)
      (λ v rest. stack.deliver items.push v (stack.after (at c s) rest (situation_here c))) tt (λ v rest h.
      let st = at_words (around c) m locals s world.text in
      let st1 = at_words (around c) m locals rest world.text in
      let i = push (in_place o) in
      let there = single c (items.move o items.push) i refl refl stands in
      let shaped : Shaped i = record { least = omega arith; most = omega arith; result_fits = tt; branch_fits = tt } in
      let end = here c + length (bytes_of i) in
      let few : length rest ≤ 48 = omega (arith, short, alone_count o (situation_here c) s v rest h) in
      let makes = made c m s rest world.text (here c) i (v ∷ []) (scratch_here c) (omega arith) shaped there.held
      (one_operand st st1 (in_place o) v (alone_value c o m world.text s v rest (scratch_here c) is h)) in
      delivered_led c items.push v end s rest m tt (scratch_here c) few there.end
      (one_step (point (here c) world.fuel) (point end world.fuel) st
      (at_words (around c) m locals (v ∷ rest) world.text)
      (makes ∙ rw (pushes (around c) m locals world.text rest v (room_for c rest (omega (arith, few)))) refl)))

  store_led : (o : items.Operand) (d : Destination) (s : List ℕ) → IsOperandHere c o → IsHere c d → length s ≤ 48
      → code_here c (items.move o d) ≡ store (result_in d) (in_place o) ∷ [] → ArrivesAt c (items.move o d)
      → ((word : ℕ) → Writes (around c) m locals (result_in d) word (memory_after c d word m) (locals_after c d word))
      → ((word : ℕ) (rest : List ℕ) → stack_after c d word rest ≡ rest) → Moved o d s
  unfolding perform
  store_led o d s is is_d short code stands writes same =
      by_operand o (situation_here c) s (LedFrom c s)
      (λ v rest. stack.deliver d v (stack.after (at c s) rest (situation_here c))) tt (λ v rest h.
      let st = at_words (around c) m locals s world.text in
      let st1 = at_words (around c) m locals rest world.text in
      let i = store (result_in d) (in_place o) in
      let there = single c (items.move o d) i code refl stands in
      let shaped : Shaped i = record { least = omega arith; most = omega arith; result_fits = tt; branch_fits = tt } in
      let end = here c + length (bytes_of i) in
      let few : length rest ≤ 48 = omega (arith, short, alone_count o (situation_here c) s v rest h) in
      let makes = made c m s rest world.text (here c) i (result_in d ∷ v ∷ []) (scratch_here c) (omega arith) shaped
      there.held
      (two_operands st st st1 (Small (result_in d)) (in_place o) (result_in d) v (small_value st (result_in d))
      (alone_value c o m world.text s v rest (scratch_here c) is h)) in
      let to = at_words (around c) (memory_after c d v m) (locals_after c d v) rest world.text in
      delivered_led c d v end s rest m is_d (scratch_here c) few there.end
      (subst (λ ws. Leads (point (here c) world.fuel) st (point end world.fuel)
      (at_words (around c) (memory_after c d v m) (locals_after c d v) ws world.text)) (sym (same v rest))
      (one_step (point (here c) world.fuel) (point end world.fuel) st to
      (makes ∙ stored_step c (point (here c) world.fuel) end (result_in d) v rest world.text m (memory_after c d v m)
      (locals_after c d v) (writes v)))))

  store_into : (o : items.Operand) (x : source.Variable) (s : List ℕ) → IsOperandHere c o → IsHere c (items.into x)
      → length s ≤ 48 → code_here c (items.move o (items.into x)) ≡ store (number_of x) (in_place o) ∷ []
      → ArrivesAt c (items.move o (items.into x)) → Moved o (items.into x) s
  store_into o x s is is_d short code stands =
      store_led o (items.into x) s is is_d short code stands
      (λ word. (variable_held c m x (scratch_here c) is_d).writes word) (λ word rest. refl)

  pub move_led : (o : items.Operand) (d : Destination) (s : List ℕ) → IsOperandHere c o → IsHere c d → length s ≤ 48
      → ArrivesAt c (items.move o d) → Moved o d s
  move_led o items.push s is is_d short stands = push_led o s is short stands
  move_led items.pushed (items.into x) [] is is_d short stands = tt
  move_led items.pushed (items.into x) (v ∷ rest) is is_d short stands =
      let i = pull (number_of x) in
      let there = single c (items.move items.pushed (items.into x)) i refl refl stands in
      let end = here c + length (bytes_of i) in
      let to = at_words (around c) (memory_with c m x v) (with_value x v (situation_here c)).locals rest world.text in
      delivered_led c (items.into x) v end (v ∷ rest) rest m is_d (scratch_here c) (omega (arith, short)) there.end
      (one_step (point (here c) world.fuel) (point end world.fuel)
      (at_words (around c) m locals (v ∷ rest) world.text)
      to
      (pull_step (around c) world.fuel m locals rest world.text (memory_with c m x v)
      (with_value x v (situation_here c)).locals (here c) (number_of x) v
      ((variable_held c m x (scratch_here c) is_d).writes v) there.held))
  move_led items.pushed items.aside [] is is_d short stands = tt
  move_led items.pushed items.aside (v ∷ rest) is is_d short stands =
      let i = pull aside_variable in
      let there = single c (items.move items.pushed items.aside) i refl refl stands in
      let end = here c + length (bytes_of i) in
      let m1 = with_variable m aside_variable v in
      delivered_led c items.aside v end (v ∷ rest) rest m is_d (scratch_here c) (omega (arith, short)) there.end
      (one_step (point (here c) world.fuel) (point end world.fuel)
      (at_words (around c) m locals (v ∷ rest) world.text)
      (at_words (around c) m1 locals rest world.text)
      (pull_step (around c) world.fuel m locals rest world.text m1 locals (here c) aside_variable v
      (global_writes (around c) m locals aside_variable v (omega arith) (omega arith)) there.held))
  move_led (items.number n) items.aside s is is_d short stands =
      store_led (items.number n) items.aside s is is_d short refl stands
      (λ word. global_writes (around c) m locals aside_variable word (omega arith) (omega arith)) (λ word rest. refl)
  move_led (items.variable y) items.aside s is is_d short stands =
      store_led (items.variable y) items.aside s is is_d short refl stands
      (λ word. global_writes (around c) m locals aside_variable word (omega arith) (omega arith)) (λ word rest. refl)
  move_led (items.number n) (items.into x) s is is_d short stands =
      store_into (items.number n) x s is is_d short refl stands
  move_led (items.variable y) (items.into x) s is is_d short stands =
      store_into (items.variable y) x s is is_d short refl stands
  move_led items.pushed items.nowhere s is is_d short stands =
      store_led items.pushed items.nowhere s is is_d short refl stands
      (λ word. global_writes (around c) m locals 248 word (omega arith) (omega arith)) (λ word rest. refl)
  move_led (items.number n) items.nowhere s is is_d short stands =
      store_led (items.number n) items.nowhere s is is_d short refl stands
      (λ word. global_writes (around c) m locals 248 word (omega arith) (omega arith)) (λ word rest. refl)
  move_led (items.variable y) items.nowhere s is is_d short stands =
      store_led (items.variable y) items.nowhere s is is_d short refl stands
      (λ word. global_writes (around c) m locals 248 word (omega arith) (omega arith)) (λ word rest. refl)

  -- Variables that are written

  abbrev pub IsVariableHere : source.Variable → Type 0
  IsVariableHere x = IsVariable p (routine_at p.routines routine).locals x

  -- the machine comes to the next item, where a variable has changed, with a word that is put aside, or none
  pub written_with : (aside : Option ℕ) (before after m1 : List ℕ) (situation : Situation) (end : ℕ)
      → HoldsAside story m1 aside → end ≡ next_place c → length after ≤ 48
      → Stored story a p situation.world.globals situation.world.arrays situation.world.objects m1
      → length situation.locals ≡ length locals → length situation.world.globals ≡ length world.globals
      → map length situation.world.arrays ≡ map length world.arrays
      → situation.world.fuel ≡ world.fuel → situation.world.text ≡ world.text
      → Leads (point (here c) world.fuel) (at_words (around c) m locals before world.text) (point end world.fuel)
      (at_words (around c) m1 situation.locals after world.text)
      → LedFrom c before (stack.goes (record {
        routine = routine;
        place = place + 1;
        stack = after;
        put_aside = aside;
        callers = callers;
        situation = situation;
      }))
  written_with aside before after m1 situation end kept is room stored locals_same globals_same arrays_same fuel text
      leads =
      let one = subst (λ f. Leads (point (here c) world.fuel) (at_words (around c) m locals before world.text)
      (point end f) (at_words (around c) m1 situation.locals after world.text)) (sym fuel) leads in
      let two = subst (λ t. Leads (point (here c) world.fuel) (at_words (around c) m locals before world.text)
      (point end situation.world.fuel) (at_words (around c) m1 situation.locals after t)) (sym text) one in
      arrives_with c aside before after m1 situation end kept is room stored locals_same globals_same arrays_same two

  pub written_led : (before after m1 : List ℕ) (situation : Situation) (end : ℕ) → end ≡ next_place c
      → length after ≤ 48
      → Stored story a p situation.world.globals situation.world.arrays situation.world.objects m1
      → length situation.locals ≡ length locals → length situation.world.globals ≡ length world.globals
      → map length situation.world.arrays ≡ map length world.arrays
      → situation.world.fuel ≡ world.fuel → situation.world.text ≡ world.text
      → Leads (point (here c) world.fuel) (at_words (around c) m locals before world.text) (point end world.fuel)
      (at_words (around c) m1 situation.locals after world.text)
      → LedFrom c before (stack.goes (record {
        routine = routine;
        place = place + 1;
        stack = after;
        put_aside = None;
        callers = callers;
        situation = situation;
      }))
  written_led before after m1 situation end is room stored locals_same globals_same arrays_same fuel text leads =
      written_with None before after m1 situation end (none_aside story m1) is room stored locals_same globals_same
      arrays_same fuel text leads

  pub within_led : (before after m1 : List ℕ) (situation : Situation) (end : ℕ) → end ≡ next_place c
      → Stored story a p situation.world.globals situation.world.arrays situation.world.objects m1
      → length situation.locals ≡ length locals → length situation.world.globals ≡ length world.globals
      → map length situation.world.arrays ≡ map length world.arrays
      → situation.world.fuel ≡ world.fuel → situation.world.text ≡ world.text
      → Leads (point (here c) world.fuel) (at_words (around c) m locals before world.text) (point end world.fuel)
      (at_words (around c) m1 situation.locals after world.text)
      → LedFrom c before (stack.within (record {
        routine = routine;
        place = place + 1;
        stack = after;
        put_aside = None;
        callers = callers;
        situation = situation;
      }))
  within_led before after m1 situation end is stored locals_same globals_same arrays_same fuel text leads =
      go (nat_le (length after) 48) refl
    where
      go : (b : Bool) → nat_le (length after) 48 ≡ b
          → LedFrom c before (if b then stack.goes
          (record {
            routine = routine;
            place = place + 1;
            stack = after;
            put_aside = None;
            callers = callers;
            situation = situation;
          })
          else stack.stuck)
      go true e = written_led before after m1 situation end is (leb-true _ _ e) stored locals_same globals_same
          arrays_same fuel text leads
      go false e = tt

  -- whatever word is put aside
  pub keep_led : (x : source.Variable) (aside : Option ℕ) (s : List ℕ) → IsVariableHere x → ArrivesAt c (items.keep x)
      → LedFrom c s (stack.keep x s (at_aside c aside s))
  keep_led x aside [] is stands = tt
  keep_led x aside (v ∷ s) is stands =
      let held = variable_held c m x (scratch_here c) is in
      let i = copy (number_of x) in
      let there = single c (items.keep x) i refl refl stands in
      let l1 = (with_value x v (situation_here c)).locals in
      let end = here c + length (bytes_of i) in
      within_led (v ∷ s) (v ∷ s) (memory_with c m x v) (with_value x v (situation_here c)) end there.end
      (held.stored v)
      (held.locals_same v) (held.globals_same v) (ap (map length) (held.arrays_same v))
      (fuel_same x v (situation_here c)) (text_same x v (situation_here c))
      (one_step (point (here c) world.fuel) (point end world.fuel) (at_words (around c) m locals (v ∷ s) world.text)
      (at_words (around c) (memory_with c m x v) l1 (v ∷ s) world.text)
      (copy_step (around c) world.fuel m locals s world.text (memory_with c m x v) l1 (here c) (number_of x) v
      (held.writes v) there.held))

  pub drop_below_led : (aside : Option ℕ) (s : List ℕ) → ArrivesAt c items.drop_below
      → LedFrom c s (stack.drop_below s (at_aside c aside s))
  drop_below_led aside [] stands = tt
  drop_below_led aside (v ∷ []) stands = tt
  drop_below_led aside (v ∷ x ∷ s) stands =
      let i = pull 0 in
      let there = single c items.drop_below i refl refl stands in
      let end = here c + length (bytes_of i) in
      arrives c (v ∷ x ∷ s) (v ∷ s) m (situation_here c) end there.end good.stored refl refl refl
      (one_step (point (here c) world.fuel) (point end world.fuel)
      (at_words (around c) m locals (v ∷ x ∷ s) world.text)
      (at_words (around c) m locals (v ∷ s) world.text)
      (pull_below_step (around c) world.fuel m locals s world.text (here c) x v there.held))
