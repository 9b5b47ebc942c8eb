-- Words that items give go to their destinations.
use Rattle.std.proofs.Common.{◌≡◌, ℕ, ◌+◌, ◌<◌, ◌≤◌, List, ◌∷◌, length, Some, refl, sym, ap, ◌∙◌, subst, arith}
use Rattle.ztext.specs.Bytes.{word_at}
use Rattle.zcore.specs.Header.{globals_of}
use Rattle.zcore.specs.State.{done}
use Rattle.zcore.specs.Execution.{give_result}
use Rattle.zcore.specs.Execution as machine
use Rattle.meaning.specs.declared.resolved.Variable.{Variable}
use Rattle.meaning.specs.declared.resolved.Variable.TheVariants as variables
use Rattle.meaning.specs.World.{with_value}
use Rattle.meaning.specs.Meaning.{routine_at}
use Rattle.code_drafts.specs.Items.{Destination}
use Rattle.code_drafts.specs.Items as items
use Rattle.code_items.specs.Laws.{IsDestination}
use Rattle.code_items.specs.Stack as stack
use Rattle.code_drafts.specs.Instructions.{number_of, aside_variable, result_in}
use Rattle.code.proofs.Play.{Leads, address, HoldsAside}
use Rattle.code.proofs.Memory.{word_of, with_variable, same_globals}
use Rattle.code.proofs.Parts.{machine as at_words, Writes, global_reads, global_writes, ReadsVariable}
use Rattle.code.proofs.Steps.{point, gives_top, gives_variable, named_variable, writes_in_place}
use Rattle.code.proofs.Arriving.{Running, at, around, here, few, LedFrom, arrives, arrives_on, arrives_with, room_for}
use Rattle.code.proofs.Arriving.{situation_here}
use Rattle.code.proofs.Variables.{memory_with, variable_held}
use Rattle.code.proofs.Temporaries.{Scratch, scratch_here, scratch_with, word_written}

-- a byte holds the number of any variable
pub number_small : (x : Variable) → number_of x < 256
number_small (variables.Local i) = omega arith
number_small (variables.Global g) = omega arith

pub result_small : (d : Destination) → result_in d < 256
result_small items.push = omega arith
result_small (items.into x) = number_small x
result_small items.aside = omega arith
result_small items.nowhere = omega arith

some_same : (v w : ℕ) → Some v ≡ Some w → v ≡ w
some_same v w e = cc

module _ (c : Running) where
  open c use {story, a, p, accepted, holds, full, m, count, counts, routine, place, callers, locals, world, good}

  -- memory, locals and stack when a word has gone where it is to go
  abbrev pub memory_after : Destination → ℕ → List ℕ → List ℕ
  memory_after items.push word other = other
  memory_after (items.into x) word other = memory_with c other x word
  memory_after items.aside word other = with_variable other aside_variable word
  memory_after items.nowhere word other = with_variable other 248 word

  abbrev pub locals_after : Destination → ℕ → List ℕ
  locals_after items.push word = locals
  locals_after (items.into x) word = (with_value x word (situation_here c)).locals
  locals_after items.aside word = locals
  locals_after items.nowhere word = locals

  abbrev pub stack_after : Destination → ℕ → List ℕ → List ℕ
  stack_after items.push word rest = word ∷ rest
  stack_after (items.into x) word rest = rest
  stack_after items.aside word rest = rest
  stack_after items.nowhere word rest = rest

  -- the last variable, as the story counts and as the memory does
  pub last_same : (other : List ℕ) → Scratch c other
      → word_at other (globals_of story + 478) ≡ word_of other aside_variable
  last_same other scratch =
      ap (λ g. word_at other (g + 478))
      (sym (same_globals story a p world.globals world.arrays world.objects other scratch.ground (few c)
      scratch.stored))

  -- a word that is written there is put aside
  pub held_aside : (other : List ℕ) (word : ℕ) → Scratch c other
      → HoldsAside story (with_variable other aside_variable word) (Some word)
  held_aside other word scratch w is =
      let written = scratch_with c other aside_variable word scratch (omega arith) (omega arith) in
      last_same (with_variable other aside_variable word) written
      ∙ word_written c other aside_variable word scratch (omega arith) (omega arith) ∙ some_same word w is

  -- the word that was put aside is in its variable
  pub word_put_aside : (word : ℕ) → HoldsAside story m (Some word) → word_of m aside_variable ≡ word
  word_put_aside word held = sym (last_same m (scratch_here c)) ∙ held word refl

  -- and in that of a memory that has it too
  pub still_aside : (word : ℕ) (other : List ℕ) → HoldsAside story m (Some word)
      → word_of other aside_variable ≡ word_of m aside_variable
      → ReadsVariable (around c) other locals aside_variable word
  still_aside word other held same =
      subst (λ w. ReadsVariable (around c) other locals aside_variable w) (same ∙ word_put_aside word held)
      (global_reads (around c) other locals aside_variable (omega arith) (omega arith))

  pub reads_aside : (word : ℕ) → HoldsAside story m (Some word) → ReadsVariable (around c) m locals aside_variable word
  reads_aside word held = still_aside word m held refl

  abbrev IsHere : Destination → Type 0
  IsHere d = IsDestination p (routine_at p.routines routine).locals d

  -- the machine comes to the next item, and the word is where it is to go
  pub delivered_led : (d : Destination) (word end : ℕ) (before rest other : List ℕ) → IsHere d → Scratch c other
      → length rest ≤ 48 → end ≡ address story a p routine (place + 1)
      → Leads (point (here c) world.fuel) (at_words (around c) m locals before world.text) (point end world.fuel)
      (at_words (around c) (memory_after d word other) (locals_after d word) (stack_after d word rest) world.text)
      → LedFrom c before (stack.deliver d word (stack.after (at c before) rest (situation_here c)))
  delivered_led items.push word end before rest other is scratch room next leads =
      arrives c before (word ∷ rest) other (situation_here c) end next scratch.stored refl refl refl leads
  delivered_led (items.into (variables.Local i)) word end before rest other is scratch room next leads =
      let held = variable_held c other (variables.Local i) scratch is in
      arrives_on c before rest other (with_value (variables.Local i) word (situation_here c)) end next room
      (held.stored word) (held.locals_same word) (held.globals_same word) refl leads
  delivered_led (items.into (variables.Global g)) word end before rest other is scratch room next leads =
      let held = variable_held c other (variables.Global g) scratch is in
      arrives_on c before rest (memory_with c other (variables.Global g) word)
      (with_value (variables.Global g) word (situation_here c)) end next room (held.stored word)
      (held.locals_same word)
      (held.globals_same word) refl leads
  delivered_led items.aside word end before rest other is scratch room next leads =
      let after = scratch_with c other aside_variable word scratch (omega arith) (omega arith) in
      arrives_with c (Some word) before rest (with_variable other aside_variable word) (situation_here c) end
      (held_aside other word scratch) next room after.stored refl refl refl leads
  delivered_led items.nowhere word end before rest other is scratch room next leads =
      let after = scratch_with c other 248 word scratch (omega arith) (omega arith) in
      arrives_on c before rest (with_variable other 248 word) (situation_here c) end next room after.stored refl refl
      refl leads

  -- the result of an instruction goes there
  pub given : (d : Destination) (word after q : ℕ) (rest other text : List ℕ) → IsHere d → Scratch c other
      → length rest ≤ 48
      → give_result (point q world.fuel) after (Some (result_in d)) word (at_words (around c) other locals rest text)
      ≡ done (point after world.fuel) (at_words (around c) (memory_after d word other) (locals_after d word)
      (stack_after d word rest) text)
  given items.push word after q rest other text is scratch room =
      gives_top (point q world.fuel) after word (around c) other locals rest text
      (room_for c rest (omega (arith, room)))
  given (items.into x) word after q rest other text is scratch room =
      gives_variable (point q world.fuel) after (number_of x) word (around c) other locals rest text
      (memory_with c other x word) (with_value x word (situation_here c)).locals
      ((variable_held c other x scratch is).writes word)
  given items.aside word after q rest other text is scratch room =
      gives_variable (point q world.fuel) after aside_variable word (around c) other locals rest text
      (with_variable other aside_variable word) locals
      (global_writes (around c) other locals aside_variable word (omega arith) (omega arith))
  given items.nowhere word after q rest other text is scratch room =
      gives_variable (point q world.fuel) after 248 word (around c) other locals rest text
      (with_variable other 248 word) locals
      (global_writes (around c) other locals 248 word (omega arith) (omega arith))

  -- a variable is stored
  pub stored_step : (here : _) (after v word : ℕ) (s text other m1 l1 : List ℕ)
      → Writes (around c) other locals v word m1 l1
      → machine.store here after v word (at_words (around c) other locals s text)
      ≡ done (point after here.fuel) (at_words (around c) m1 l1 s text)
  unfolding machine.store
  stored_step here after v word s text other m1 l1 w =
      rw (
        named_variable (at_words (around c) other locals s text) v w.small,
        writes_in_place (around c) other locals s text m1 l1 v word w,
      ) refl
