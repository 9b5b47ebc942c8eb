-- Items that print the short name of an object.
use Rattle.std.proofs.Common.{◌≡◌, ℕ, zero, suc, ◌+◌, ◌≤◌, List, [], ◌∷◌, length, refl, ◌∙◌, arith}
use Rattle.std.specs.Prelude.{map}
use Rattle.std.specs.List.{All}
use Rattle.zcore.specs.declared.instruction.Operand.{Operand}
use Rattle.zcore.specs.declared.instruction.Operation.TheVariants as operations
use Rattle.zcore.specs.Instruction.{Instruction}
use Rattle.zcore.specs.InstructionBytes.{bytes_of}
use Rattle.zcore.specs.Execution.{perform, print_characters}
use Rattle.zcore.specs.Objects.{print_object}
use Rattle.zcore.specs.Layout.{text_limit}
use Rattle.syntax_lexer.specs.Printable.{IsPrintable}
use Rattle.meaning.specs.Forests.{IsObjectNumber}
use Rattle.meaning.specs.Objects.{ObjectOf, object_at}
use Rattle.meaning.specs.Places.{machine_character}
use Rattle.meaning.specs.World.{put, shown}
use Rattle.code_drafts.specs.Items as items
use Rattle.code_items.specs.Stack as stack
use Rattle.code_drafts.specs.Instructions.{plain}
use Rattle.code.proofs.Parts.{machine as at_words}
use Rattle.code.proofs.Steps.{point, first_held, one_operand}
use Rattle.code.proofs.Ends.{prints_on, prints_off}
use Rattle.code.proofs.Texts.{text_prints}
use Rattle.code.proofs.AddressLengths.{one_length}
use Rattle.code.proofs.Fitting.{Shaped}
use Rattle.code.proofs.Arriving.{Running, at, around, LedFrom, situation_here, ArrivesAt}
use Rattle.code.proofs.Temporaries.{made}
use Rattle.code.proofs.Alone.{alone_count, IsOperandHere}
use Rattle.code.proofs.ItemsThatPrint.{printed_led}
use Rattle.code.proofs.TestedWords.{AtIndex}
use Rattle.code.proofs.TestedObjects.{IsObjectHere, acts_in, begins, begun_end, object_tests, tests_led}

-- each object has a name that can be printed
pub name_printable : (definitions : List ObjectOf) (o : ℕ) → All (λ (x : ObjectOf). All IsPrintable x.name) definitions
    → IsObjectNumber (length definitions) o → All IsPrintable (object_at definitions o).name
name_printable definitions zero all is = absurd (omega (arith, is.low))
name_printable definitions (suc o) all is = all o _ (omega (arith, is.high))

module _ (c : Running) where
  open c use {story, a, p, accepted, holds, full, m, count, counts, routine, place, callers, locals, world, good}

  name_printed : (v : ℕ) (before rest : List ℕ) → All IsPrintable (object_at p.objects v).name → length rest ≤ 48
      → length world.text ≤ text_limit → IsObjectHere c v
      → AtIndex c v before rest m (λ x. plain operations.PrintObject (x ∷ []) ∷ [])
      → LedFrom c before (stack.prints (put (map shown (object_at p.objects v).name)) rest (at c before))
  unfolding perform
  name_printed v before rest printable room short object t =
      let r = t.reached in
      let i = plain operations.PrintObject (t.operand ∷ []) in
      let end = r.q + length (bytes_of i) in
      let st = at_words (around c) r.memory locals rest world.text in
      let name = (object_at p.objects v).name in
      let shaped : Shaped i = record { least = omega arith; most = omega arith; result_fits = tt; branch_fits = tt } in
      let makes = made c r.memory rest rest world.text r.q i (v ∷ []) r.scratch r.from shaped
      (first_held m r.q i [] r.held) (one_operand st st t.operand v t.value) in
      let does : print_object (point r.q world.fuel) end v st
      ≡ print_characters (point r.q world.fuel) end (map machine_character name) st =
      (acts_in c r.memory rest world.text r.scratch).prints (point r.q world.fuel) end v object (λ _. short) in
      printed_led c before rest rest r.memory (map shown name) r.q end (omega (arith, t.end, one_length i)) room
      r.scratch r.leads
      (λ e. makes ∙ does ∙ prints_on (around c) r.memory locals rest world.text (point r.q world.fuel) end
      (map machine_character name) (map shown name) (text_prints name printable) e)
      (λ e. makes ∙ does ∙ prints_off (around c) r.memory locals rest world.text (point r.q world.fuel) end
      (map machine_character name) (map shown name) (text_prints name printable) e)

  pub print_name_led : (o : items.Operand) (s : List ℕ)
      → ((v : ℕ) → IsObjectHere c v → All IsPrintable (object_at p.objects v).name) → length world.text ≤ text_limit
      → IsOperandHere c o → length s ≤ 48 → ArrivesAt c (items.print_name o)
      → LedFrom c s (stack.with_operand o (situation_here c) s
      (λ v rest. stack.prints (stack.put_name p v) rest (at c s)))
  print_name_led o s names short is room stands =
      let item = items.print_name o in
      let act : Operand → List Instruction = λ x. plain operations.PrintObject (x ∷ []) ∷ [] in
      tests_led c o s s m act (λ v. put (map shown (object_at p.objects v).name))
      (λ rest _ situation. stack.goes (stack.after (at c s) rest situation))
      (object_tests c o act s s m is (begins c item s stands) (begun_end c item s refl stands) stands.followed)
      (λ v rest alone object t.
      name_printed v s rest (names v object) (omega (arith, room, alone_count o (situation_here c) s v rest alone))
      short object t)
