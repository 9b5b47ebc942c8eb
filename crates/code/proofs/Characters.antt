-- The item that prints a character, with its fault.
use Rattle.std.proofs.Common.{◌≡◌, ℕ, ◌+◌, ◌<◌, ◌≤◌, List, [], ◌∷◌, ◌++◌, length, Some, None, Bool, true, false, refl}
use Rattle.std.proofs.Common.{sym, ◌∙◌, subst, arith}
use Rattle.std.specs.Prelude.{if◌then◌else◌, not, ◌||◌, ◌&&◌}
use Rattle.std.specs.List.{flat_map}
use Rattle.std.proofs.lemmas.List.{append-nil}
use Rattle.zcore.specs.declared.instruction.Operand.{Operand}
use Rattle.zcore.specs.declared.instruction.Operand.TheVariants.{Small, Variable}
use Rattle.zcore.specs.declared.instruction.Operation.{Operation}
use Rattle.zcore.specs.declared.instruction.Operation.TheVariants as operations
use Rattle.zcore.specs.declared.next.Next.{Next}
use Rattle.zcore.specs.Arithmetic.{signed_less}
use Rattle.zcore.specs.Instruction.{Instruction}
use Rattle.zcore.specs.InstructionBytes.{bytes_of}
use Rattle.zcore.specs.State.{State, done}
use Rattle.zcore.specs.Parts.{operand_value, operand_values, branch_on, transcribed}
use Rattle.zcore.specs.Execution.{perform, step, equals_any, print_character}
use Rattle.meaning.specs.declared.cause.Cause.TheVariants as causes
use Rattle.code_drafts.specs.Addresses.{fault_address}
use Rattle.meaning.specs.World.{put, value_in}
use Rattle.meaning.specs.World as source
use Rattle.meaning.specs.Meaning.{is_character, put_character}
use Rattle.code_drafts.specs.Items as items
use Rattle.code_items.specs.Stack as stack
use Rattle.code_drafts.specs.Instructions.{plain, branching, number_of, pull, fail, in_place}
use Rattle.code_instructions.specs.Instructions.{tested_character}
use Rattle.code.proofs.Behind.{Holds, holds_append}
use Rattle.code.proofs.Play.{Leads, stays, moves}
use Rattle.code.proofs.Memory.{with_variable}
use Rattle.code.proofs.Parts.{machine as at_words, ReadsVariable}
use Rattle.code.proofs.Steps.{point, leads_then, one_step, first_held, others_held, one_operand, two_operands}
use Rattle.code.proofs.Steps.{three_operands, small_value, variable_value, landing}
use Rattle.code.proofs.SingleSteps.{branch_step}
use Rattle.code.proofs.Fitting.{Shaped, held_bytes, encodable}
use Rattle.code.proofs.Ends.{prints_on, prints_off}
use Rattle.code.proofs.ItemOperands.{constant_value}
use Rattle.code.proofs.Texts.{cause_line}
use Rattle.code.proofs.AddressLengths.{one_length}
use Rattle.code.proofs.Arriving.{Running, at, around, here, high, above, kept, LedFrom, code_held, ArrivesAt}
use Rattle.code.proofs.Arriving.{situation_here}
use Rattle.code.proofs.Variables.{variable_held}
use Rattle.code.proofs.Temporaries.{Scratch, scratch_here, scratch_with, reads_written, held_in, made, pull_temporary}
use Rattle.code.proofs.Temporaries.{others_held_pull}
use Rattle.code.proofs.Alone.{IsOperandHere, next_place, plain_length}
use Rattle.code.proofs.ItemsThatPrint.{printed_led, fails_led}
use Rattle.code.proofs.CharacterTests.{character_tests}

module _ (c : Running) where
  open c use {story, a, p, accepted, holds, full, m, count, counts, routine, place, callers, locals, world, good}

  -- the tests of a character lead to its instruction, or to the fault
  tests_lead : (b1 b2 b3 : Bool) (st : State) (q : ℕ)
      → step (point q world.fuel) st ≡ done (point (landing true b1 (q + 6) 12) world.fuel) st
      → step (point (q + 6) world.fuel) st ≡ done (point (landing true b2 (q + 6 + 4) 4) world.fuel) st
      → step (point (q + 6 + 4) world.fuel) st ≡ done (point (landing false b3 (q + 6 + 4 + 4) 4) world.fuel) st
      → Leads (point q world.fuel) st (point (if b1 || (not b2 && not b3) then q + 18 else q + 14) world.fuel) st
  tests_lead true b2 b3 st q e1 e2 e3 =
      let to : q + 6 + 12 ≡ q + 18 = omega arith in
      subst (λ k. Leads (point q world.fuel) st (point k world.fuel) st) to
      (one_step (point q world.fuel) (point (q + 6 + 12) world.fuel) st st e1)
  tests_lead false true b3 st q e1 e2 e3 =
      let to : q + 6 + 4 + 4 ≡ q + 14 = omega arith in
      subst (λ k. Leads (point q world.fuel) st (point k world.fuel) st) to
      (moves (point q world.fuel) (point (q + 6) world.fuel) (point (q + 6 + 4 + 4) world.fuel) st st st e1
      (one_step (point (q + 6) world.fuel) (point (q + 6 + 4 + 4) world.fuel) st st e2))
  tests_lead false false true st q e1 e2 e3 =
      let to : q + 6 + 4 + 4 ≡ q + 14 = omega arith in
      subst (λ k. Leads (point q world.fuel) st (point k world.fuel) st) to
      (moves (point q world.fuel) (point (q + 6) world.fuel) (point (q + 6 + 4 + 4) world.fuel) st st st e1
      (moves (point (q + 6) world.fuel) (point (q + 6 + 4) world.fuel) (point (q + 6 + 4 + 4) world.fuel) st st st e2
      (one_step (point (q + 6 + 4) world.fuel) (point (q + 6 + 4 + 4) world.fuel) st st e3)))
  tests_lead false false false st q e1 e2 e3 =
      let to : q + 6 + 4 + 4 + 4 ≡ q + 18 = omega arith in
      subst (λ k. Leads (point q world.fuel) st (point k world.fuel) st) to
      (moves (point q world.fuel) (point (q + 6) world.fuel) (point (q + 6 + 4 + 4 + 4) world.fuel) st st st e1
      (moves (point (q + 6) world.fuel) (point (q + 6 + 4) world.fuel) (point (q + 6 + 4 + 4 + 4) world.fuel) st st st
      e2 (one_step (point (q + 6 + 4) world.fuel) (point (q + 6 + 4 + 4 + 4) world.fuel) st st e3)))

  -- a word in a variable is tested, and printed
  module _ (variable v q : ℕ) (before mid other : List ℕ) (scratch : Scratch c other) (from : here c ≤ q)
      (short : length mid ≤ 48) (reads : ReadsVariable (around c) other locals variable v)
      (h : Holds m q (flat_map bytes_of (tested_character a variable)))
      (end : q + length (flat_map bytes_of (tested_character a variable)) ≡ next_place c) (followed : next_place c
      < length m)
      (leads : Leads (point (here c) world.fuel) (at_words (around c) m locals before world.text) (point q world.fuel)
      (at_words (around c) other locals mid world.text)) where
    abbrev equal_test : Instruction
    equal_test = branching operations.JumpIfEqual (Variable variable ∷ Small 0 ∷ Small 13 ∷ []) true 14

    abbrev low_test : Instruction
    low_test = branching operations.JumpIfLess (Variable variable ∷ Small 32 ∷ []) true 6

    abbrev high_test : Instruction
    high_test = branching operations.JumpIfGreater (Variable variable ∷ Small 126 ∷ []) false 6

    abbrev print_it : Instruction
    print_it = plain operations.PrintCharacter (Variable variable ∷ [])

    abbrev end_code : List Instruction
    end_code = fail (fault_address a causes.NotACharacter) ++ print_it ∷ []

    abbrev st : State
    st = at_words (around c) other locals mid world.text

    -- the bytes of its tests, one after another
    record Parts : Type 0 where
      equal : Holds m q (bytes_of equal_test)
      low : Holds m (q + 6) (bytes_of low_test)
      high : Holds m (q + 6 + 4) (bytes_of high_test)
      fault : Holds m (q + 14) (flat_map bytes_of (fail (fault_address a causes.NotACharacter)))
      print : Holds m (q + 18) (bytes_of print_it)
      size : length (flat_map bytes_of (tested_character a variable)) ≡ 21

    parts : Parts
    unfolding bytes_of
    parts =
        let h1 = others_held m q equal_test (low_test ∷ high_test ∷ end_code) h in
        let h2 = others_held m (q + 6) low_test (high_test ∷ end_code) h1 in
        let h3 = others_held m (q + 6 + 4) high_test end_code h2 in
        let n : q + 6 + 4 + 4 ≡ q + 14 = omega arith in
        let both = holds_append m (q + 14) (flat_map bytes_of (fail (fault_address a causes.NotACharacter)))
        (flat_map bytes_of (print_it ∷ [])) (subst (λ k. Holds m k (flat_map bytes_of end_code)) n h3) in
        let n1 : q + 14 + 4 ≡ q + 18 = omega arith in
        record {
          equal = first_held m q equal_test (low_test ∷ high_test ∷ end_code) h;
          low = first_held m (q + 6) low_test (high_test ∷ end_code) h1;
          high = first_held m (q + 6 + 4) high_test end_code h2;
          fault = both.0;
          print = first_held m (q + 18) print_it []
              (subst (λ k. Holds m k (flat_map bytes_of (print_it ∷ []))) n1 both.1);
          size = refl;
        }

    value : operand_value (Variable variable) st ≡ done v st
    value = variable_value (around c) other locals mid world.text variable v reads

    -- one of the tests
    one_test : (op : Operation) (os : List Operand) (values : List ℕ) (when holds : Bool) (at d : ℕ)
        → Shaped (branching op os when (2 + d)) → operand_values os st ≡ done values st
        → ((here : Next) (after : ℕ) (st : State)
        → perform op here after None (Some (record { when = when; offset = 2 + d })) values st
        ≡ branch_on here after (Some (record { when = when; offset = 2 + d })) holds st)
        → d < 8190 → q ≤ at → 0 < length (bytes_of (branching op os when (2 + d)))
        → at + length (bytes_of (branching op os when (2 + d))) + d < length m
        → Holds m at (bytes_of (branching op os when (2 + d)))
        → step (point at world.fuel) st ≡ done
        (point (landing when holds (at + length (bytes_of (branching op os when (2 + d)))) d) world.fuel) st
    one_test op os values when so place d shaped taken is near behind some within there =
        let i = branching op os when (2 + d) in
        branch_step (around c) world.fuel other locals mid mid world.text place d op os values when so
        (encodable i shaped (held_bytes _ place story m (bytes_of i) holds.byte_each (kept c)
        (omega (arith, high c, from, behind)) there))
        taken is near (omega (arith, above c, from, behind)) some
        (omega (arith, within, good.stored.size, scratch.stored.size))
        (held_in c other (bytes_of i) place scratch (omega (arith, from, behind)) there)

    tested : Leads (point (here c) world.fuel) (at_words (around c) m locals before world.text)
        (point (if is_character v then q + 18 else q + 14) world.fuel) st
    unfolding bytes_of perform
    tested =
        let equal_shaped : Shaped equal_test =
        record { least = omega arith; most = omega arith; result_fits = tt; branch_fits = omega arith } in
        let low_shaped : Shaped low_test =
        record { least = omega arith; most = omega arith; result_fits = tt; branch_fits = omega arith } in
        let high_shaped : Shaped high_test =
        record { least = omega arith; most = omega arith; result_fits = tt; branch_fits = omega arith } in
        let room : q + 18 < length m = omega (arith, end, parts.size, followed) in
        leads_then (point (here c) world.fuel) (point q world.fuel)
        (point (if is_character v then q + 18 else q + 14) world.fuel)
        (at_words (around c) m locals before world.text)
        st st leads
        (subst (λ b. Leads (point q world.fuel) st (point (if b then q + 18 else q + 14) world.fuel) st)
        (sym (character_tests v))
        (tests_lead (equals_any v (0 ∷ 13 ∷ [])) (signed_less v 32) (signed_less 126 v) st q
        (one_test operations.JumpIfEqual (Variable variable ∷ Small 0 ∷ Small 13 ∷ []) (v ∷ 0 ∷ 13 ∷ []) true
        (equals_any v (0 ∷ 13 ∷ [])) q 12 equal_shaped
        (three_operands st st st st (Variable variable) (Small 0) (Small 13) v 0 13 value (small_value st 0)
        (small_value st 13))
        (λ here after st. refl) (omega arith) (omega arith) (omega arith) (omega (arith, room)) parts.equal)
        (one_test operations.JumpIfLess (Variable variable ∷ Small 32 ∷ []) (v ∷ 32 ∷ []) true (signed_less v 32)
        (q + 6) 4 low_shaped
        (two_operands st st st (Variable variable) (Small 32) v 32 value (small_value st 32))
        (λ here after st. refl) (omega arith) (omega arith) (omega arith) (omega (arith, room)) parts.low)
        (one_test operations.JumpIfGreater (Variable variable ∷ Small 126 ∷ []) (v ∷ 126 ∷ []) false
        (signed_less 126 v)
        (q + 6 + 4) 4 high_shaped
        (two_operands st st st (Variable variable) (Small 126) v 126 value (small_value st 126))
        (λ here after st. refl) (omega arith) (omega arith) (omega arith) (omega (arith, room)) parts.high)))

    by_test : (b : Bool) → is_character v ≡ b
        → LedFrom c before
        (stack.prints (if b then put (transcribed v) else source.fault causes.NotACharacter) mid
        (at c before))
    unfolding bytes_of perform print_character
    by_test true e =
        let shaped : Shaped print_it =
        record { least = omega arith; most = omega arith; result_fits = tt; branch_fits = tt } in
        let makes = made c other mid mid world.text (q + 18) print_it (v ∷ []) scratch (omega (arith, from)) shaped
        parts.print (one_operand st st (Variable variable) v value) in
        let there = subst (λ b. Leads (point (here c) world.fuel) (at_words (around c) m locals before world.text)
        (point (if b then q + 18 else q + 14) world.fuel) st) e tested in
        printed_led c before mid mid other (transcribed v) (q + 18) (q + 18 + 3) (omega (arith, end, parts.size))
        short
        scratch there
        (λ room. makes
        ∙ rw e (prints_on (around c) other locals mid world.text (point (q + 18) world.fuel) (q + 18 + 3)
        (v ∷ []) (transcribed v) (append-nil (transcribed v)) room))
        (λ room. makes ∙ rw e (prints_off (around c) other locals mid world.text (point (q + 18) world.fuel)
        (q + 18 + 3) (v ∷ []) (transcribed v) (append-nil (transcribed v)) room))
    by_test false e =
        let there = subst (λ b. Leads (point (here c) world.fuel) (at_words (around c) m locals before world.text)
        (point (if b then q + 18 else q + 14) world.fuel) st) e tested in
        fails_led c causes.NotACharacter (fault_address a causes.NotACharacter) (q + 14) before mid other
        (λ _ situation. stack.goes (stack.after (at c before) mid situation)) (cause_line causes.NotACharacter)
        (holds.faults causes.NotACharacter)
        (omega (arith, from)) scratch parts.fault there

  -- a number is printed, or is none of a character
  number_led : (b : Bool) (n : ℕ) (s : List ℕ) → is_character n ≡ b → length s ≤ 48
      → Holds m (here c) (flat_map bytes_of (if b
      then plain operations.PrintCharacter (in_place (items.number n) ∷ []) ∷ [] else fail
      (fault_address a causes.NotACharacter)))
      → here c + length (flat_map bytes_of (if b
      then plain operations.PrintCharacter (in_place (items.number n) ∷ []) ∷ [] else fail
      (fault_address a causes.NotACharacter)))
      ≡ next_place c
      → LedFrom c s (stack.prints (if b then put (transcribed n) else source.fault causes.NotACharacter) s
      (at c s))
  unfolding perform print_character
  number_led true n s e short h end =
      let i = plain operations.PrintCharacter (in_place (items.number n) ∷ []) in
      let st = at_words (around c) m locals s world.text in
      let shaped : Shaped i = record { least = omega arith; most = omega arith; result_fits = tt; branch_fits = tt } in
      let makes = made c m s s world.text (here c) i (n ∷ []) (scratch_here c) (omega arith) shaped
      (first_held m (here c) i [] h) (one_operand st st (in_place (items.number n)) n (constant_value st n)) in
      let after = here c + length (bytes_of i) in
      printed_led c s s s m (transcribed n) (here c) after (omega (arith, end, one_length i)) short (scratch_here c)
      (stays (point (here c) world.fuel) st)
      (λ room. makes ∙ rw e (prints_on (around c) m locals s world.text (point (here c) world.fuel) after (n ∷ [])
      (transcribed n) (append-nil (transcribed n)) room))
      (λ room. makes ∙ rw e (prints_off (around c) m locals s world.text (point (here c) world.fuel) after (n ∷ [])
      (transcribed n) (append-nil (transcribed n)) room))
  number_led false n s e short h end =
      fails_led c causes.NotACharacter (fault_address a causes.NotACharacter) (here c) s s m
      (λ _ situation. stack.goes (stack.after (at c s) s situation)) (cause_line causes.NotACharacter)
      (holds.faults causes.NotACharacter)
      (omega arith)
      (scratch_here c) h
      (stays (point (here c) world.fuel) (at_words (around c) m locals s world.text))

  pub print_character_led : (o : items.Operand) (s : List ℕ) → IsOperandHere c o → length s ≤ 48
      → ArrivesAt c (items.print_character o)
      → LedFrom c s
      (stack.with_operand o (situation_here c) s (λ v rest. stack.prints (put_character v) rest (at c s)))
  unfolding bytes_of
  print_character_led items.pushed [] is short stands = tt
  print_character_led items.pushed (v ∷ s) is short stands =
      let m1 = with_variable m 248 v in
      let scratch = scratch_with c m 248 v (scratch_here c) (omega arith) (omega arith) in
      let h = code_held c (items.print_character items.pushed) stands in
      let size = plain_length c (items.print_character items.pushed) refl in
      by_test 248 v (here c + 3) (v ∷ s) s m1 scratch (omega arith) (omega (arith, short))
      (reads_written c m 248 v (scratch_here c) (omega arith) (omega arith))
      (others_held_pull c 248 (tested_character a 248) (here c) h) (omega (arith, stands.next, size)) stands.followed
      (one_step (point (here c) world.fuel) (point (here c + 3) world.fuel)
      (at_words (around c) m locals (v ∷ s) world.text) (at_words (around c) m1 locals s world.text)
      (pull_temporary c m s world.text (here c) 248 v (scratch_here c) (omega arith) (omega arith) (omega arith)
      (first_held m (here c) (pull 248) (tested_character a 248) h)))
      (is_character v) refl
  print_character_led (items.number n) s is short stands =
      let size = plain_length c (items.print_character (items.number n)) refl in
      number_led (is_character n) n s refl short (code_held c (items.print_character (items.number n)) stands)
      (omega (arith, stands.next, size))
  print_character_led (items.variable x) s is short stands =
      let size = plain_length c (items.print_character (items.variable x)) refl in
      by_test (number_of x) (value_in x (situation_here c)) (here c) s s m (scratch_here c) (omega arith) short
      (variable_held c m x (scratch_here c) is).reads
      (code_held c (items.print_character (items.variable x)) stands) (omega (arith, stands.next, size))
      stands.followed
      (stays (point (here c) world.fuel) (at_words (around c) m locals s world.text))
      (is_character (value_in x (situation_here c))) refl
