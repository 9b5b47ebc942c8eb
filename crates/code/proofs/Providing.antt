-- The property of an object is found.
use Rattle.std.proofs.Common.{◌≡◌, ◌≢◌, ℕ, ◌+◌, ◌<◌, ◌≤◌, List, [], ◌∷◌, ◌++◌, length, Option, Some, None, false, refl}
use Rattle.std.proofs.Common.{ap, ◌∙◌, subst, arith}
use Rattle.std.specs.Prelude.{◌==◌, not}
use Rattle.std.proofs.lemmas.Bool.{ne_eqb}
use Rattle.zcore.specs.declared.instruction.Operand.{Operand}
use Rattle.zcore.specs.declared.instruction.Operand.TheVariants.{Small, Variable}
use Rattle.zcore.specs.declared.instruction.Operation.TheVariants as operations
use Rattle.zcore.specs.Instruction.{Instruction}
use Rattle.zcore.specs.InstructionBytes.{bytes_of}
use Rattle.zcore.specs.ObjectProperties.{get_property_address}
use Rattle.zcore.specs.Parts.{operand_value}
use Rattle.zcore.specs.State.{State, done}
use Rattle.zcore.specs.Execution.{perform, give_result}
use Rattle.meaning.specs.declared.cause.Cause.TheVariants as causes
use Rattle.meaning.specs.Accepted.{IsProperty}
use Rattle.code.specs.TableLaws.{Acts, Placed}
use Rattle.code.specs.Region.{HasObjects, tables_base}
use Rattle.code.specs.Tables.{words_place, PropertyTable}
use Rattle.code.proofs.Together.{region_laws}
use Rattle.code_drafts.specs.Addresses.{fault_address}
use Rattle.code_drafts.specs.Instructions.{branching, fail}
use Rattle.code_instructions.specs.ObjectCode.{property_address, provided}
use Rattle.code.proofs.Memory.{word_of, with_variable}
use Rattle.code.proofs.Parts.{machine as at_words}
use Rattle.code.proofs.Steps.{point, one_operand, two_operands, small_value, variable_value}
use Rattle.code.proofs.Fitting.{Shaped}
use Rattle.code.proofs.Arriving.{Running, around}
use Rattle.code.proofs.Temporaries.{word_written, word_unwritten}
use Rattle.code.proofs.Alone.{next_place}
use Rattle.code.proofs.TestedObjects.{IsObjectHere}
use Rattle.code.proofs.Working.{Works, writes, reads_word, same_base, FailsWith}
use Rattle.code.proofs.FaultTests.{Passed, tests}

module _ (c : Running) where
  open c use {story, a, p, accepted, holds, full, m, count, counts, routine, place, callers, locals, world, good}

  -- where the words of a property stand
  abbrev pub words_at : List PropertyTable → ℕ → ℕ → ℕ
  words_at tables o q = words_place (tables_base (length p.objects) story) tables o q

  pub acts_on : (tables : List PropertyTable) (memory rest : List ℕ)
      → (has : HasObjects p.objects p.defaults world.objects tables memory)
      → Acts p.objects p.defaults world.objects tables (at_words (around c) memory locals rest world.text) has
  acts_on tables memory rest has =
      region_laws.acts p.objects p.defaults world.objects tables (at_words (around c) memory locals rest world.text) has

  pub placed_on : (tables : List PropertyTable) (memory : List ℕ)
      → (has : HasObjects p.objects p.defaults world.objects tables memory)
      → Placed p.objects p.defaults world.objects tables memory
  placed_on tables memory has = region_laws.placed p.objects p.defaults world.objects tables memory has

  -- the words of a property are found, and their address is in a variable of the compiler
  pub record FoundProperty (tables : List PropertyTable) (before rest old : List ℕ) (o q : ℕ)
      (is : List Instruction) : Type 0 where
    pub memory : List ℕ
    pub there : ℕ
    pub works : Works c tables before rest memory there is
    pub address : word_of memory 250 ≡ words_at tables o q
    pub others : (v : ℕ) → 248 ≤ v → v ≢ 250 → word_of memory v ≡ word_of old v

  -- by whether the object provides the property
  abbrev pub Finds : Option (List ℕ) → List PropertyTable → List ℕ → List ℕ → List ℕ → ℕ → ℕ → List Instruction → Type 0
  Finds None tables before rest old o q is = FailsWith c causes.NoSuchProperty before
  Finds (Some words) tables before rest old o q is = FoundProperty tables before rest old o q is

  some_there : (y : ℕ) → 64 < y → (y == 0) ≡ false
  some_there y h = ne_eqb _ _ (λ e. omega (arith, e, h))

  pub finds : (tables : List PropertyTable) (before rest old : List ℕ) (there o q : ℕ) (x : Operand)
      (is : List Instruction)
      → next_place c < length m → IsObjectHere c o → IsProperty q
      → operand_value x (at_words (around c) old locals rest world.text)
      ≡ done o (at_words (around c) old locals rest world.text)
      → Works c tables before rest old there (provided a x q ++ is)
      → Finds (world.objects.properties o q) tables before rest old o q is
  unfolding perform bytes_of
  finds tables before rest old there o q x is followed known named value t =
      go (world.objects.properties o q) refl
    where
      st : State
      st = at_words (around c) old locals rest world.text

      first : Instruction
      first = property_address x q 250

      shaped : Shaped first
      shaped = record { least = omega arith; most = omega arith; result_fits = omega arith; branch_fits = tt }

      test : Instruction
      test = branching operations.JumpIfZero (Variable 250 ∷ []) false 6

      shaped_test : Shaped test
      shaped_test = record { least = omega arith; most = omega arith; result_fits = tt; branch_fits = omega arith }

      -- an address is tested
      addressed : (w : ℕ)
          → ((after : ℕ) → get_property_address (point there world.fuel) after (Some 250) o q st
          ≡ give_result (point there world.fuel) after (Some 250) w st)
          → Passed c (not (w == 0)) causes.NoSuchProperty tables before rest (with_variable old 250 w)
          (there + length (bytes_of first) + 3 + 4) is
      addressed w does =
          let after = there + length (bytes_of first) in
          let m1 = with_variable old 250 w in
          let st1 = at_words (around c) m1 locals rest world.text in
          let next = writes c tables before rest old there 250 w operations.GetPropertyAddress (x ∷ Small q ∷ [])
          (o ∷ q ∷ []) (test ∷ (fail (fault_address a causes.NoSuchProperty) ++ is)) (omega arith) (omega arith) shaped
          (two_operands st st st x (Small q) o q value (small_value st q)) does t in
          tests c causes.NoSuchProperty tables before rest m1 after operations.JumpIfZero (Variable 250 ∷ []) (w ∷ [])
          false (w == 0) is followed shaped_test
          (one_operand st1 st1 (Variable 250) w
          (variable_value (around c) m1 locals rest world.text 250 w
          (reads_word c m1 250 w (omega arith) (omega arith)
          (word_written c old 250 w t.scratch (omega arith) (omega arith)))))
          (λ after. refl) (omega arith) next

      go : (words : Option (List ℕ)) → world.objects.properties o q ≡ words
          → Finds words tables before rest old o q is
      go None e =
          addressed 0 (λ after. (acts_on tables old rest t.has).absent (point there world.fuel) after (Some 250) o q
          known named.0 named.1 e)
      go (Some words) e =
          let w = words_at tables o q in
          let same = same_base c (length p.objects) old t.scratch in
          let low = ((placed_on tables old t.has).within o q words known e).2 in
          let here_is : words_place (tables_base (length p.objects) old) tables o q ≡ w =
          ap (λ n. words_place n tables o q) same in
          let some : (w == 0) ≡ false = some_there w (omega (arith, here_is, low)) in
          record {
            memory = with_variable old 250 w;
            there = there + length (bytes_of first) + 3 + 4;
            works = subst (λ b. Passed c (not b) causes.NoSuchProperty tables before rest (with_variable old 250 w)
                (there + length (bytes_of first) + 3 + 4) is) some
                (addressed w (λ after. (acts_on tables old rest t.has).present (point there world.fuel) after (Some 250)
                o q words known e ∙ ap (λ (n : ℕ). give_result (point there world.fuel) after (Some 250) n st)
                here_is));
            address = word_written c old 250 w t.scratch (omega arith) (omega arith);
            others = λ v low differs. word_unwritten c old 250 w v t.scratch (omega arith) (omega arith) low differs;
          }
