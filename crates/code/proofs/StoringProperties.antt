-- The word of a property is stored where the object provides it.
use Rattle.std.proofs.Common.{◌≡◌, ℕ, ◌+◌, ◌<◌, ◌≤◌, suc, List, [], ◌∷◌, ◌++◌, length, slice_set, Option, Some, None}
use Rattle.std.proofs.Common.{Bool, true, false, length-append, refl, sym, ap, ◌∙◌, subst, arith}
use Rattle.std.specs.Prelude.{nat_lt, if◌then◌else◌, ◌==◌}
use Rattle.std.specs.List.{flat_map}
use Rattle.std.proofs.lemmas.Bool.{and_parts, ltb-true, eqb-true}
use Rattle.zcore.specs.declared.instruction.Operand.{Operand}
use Rattle.zcore.specs.declared.instruction.Operand.TheVariants.{Small, Variable}
use Rattle.zcore.specs.declared.instruction.Operation.TheVariants as operations
use Rattle.zcore.specs.Instruction.{Instruction}
use Rattle.zcore.specs.InstructionBytes.{bytes_of}
use Rattle.zcore.specs.Parts.{operand_value}
use Rattle.zcore.specs.State.{done}
use Rattle.zcore.specs.Execution.{perform, store_word}
use Rattle.meaning.specs.declared.cause.Cause.TheVariants as causes
use Rattle.meaning.specs.Objects.{Objects, with_words}
use Rattle.meaning.specs.World.{Situation, Part, bound, ◌>>=◌, to, test_provided, test_word, test_single, write_words}
use Rattle.meaning.specs.World.{with_objects}
use Rattle.meaning.specs.World as source
use Rattle.code_drafts.specs.Items.{Destination}
use Rattle.code_drafts.specs.Items as items
use Rattle.code_items.specs.Stack as stack
use Rattle.code.specs.Region.{tables_base}
use Rattle.code.specs.Tables.{words_place, PropertyTable}
use Rattle.code_drafts.specs.Instructions.{plain, word_in}
use Rattle.code_instructions.specs.ObjectCode.{tested_word, tested_single, assigned_word, passed_on}
use Rattle.code.specs.ItemCode.{is_entry}
use Rattle.code.proofs.Memory.{word_of}
use Rattle.code.proofs.Parts.{machine as at_words}
use Rattle.code.proofs.Steps.{point, leads_then, one_step, first_held, others_held, three_operands, small_value}
use Rattle.code.proofs.Steps.{variable_value}
use Rattle.code.proofs.Arriving.{Running, at, around, here, LedFrom, situation_here}
use Rattle.code.proofs.Temporaries.{made}
use Rattle.code.proofs.Alone.{IsOperandHere, IsHere, next_place}
use Rattle.code.proofs.StoringSteps.{after_bound}
use Rattle.code.proofs.TestedObjects.{IsObjectHere}
use Rattle.code.proofs.Working.{Works, HoldsWord, fault_led, reads_word, word_value, word_still, same_base}
use Rattle.code.proofs.Changing.{variable_same, high_same, stored_objects, passed_led}
use Rattle.code.proofs.Providing.{words_at, acts_on, Finds}
use Rattle.code.proofs.CountedWords.{Kept, WordTested, word_tests, SingleTested, single_tests}

-- one word where there is one
only_word : (words : List ℕ) (w : ℕ) → (length words == 1) ≡ true → slice_set words 0 w ≡ w ∷ []
only_word [] w e = absurd (cc)
only_word (x ∷ []) w e = refl
only_word (x ∷ y ∷ words) w e = absurd (many (length words) e)
  where
    many : (n : ℕ) → (suc (suc n) == 1) ≡ true → ⊥
    many n f = let g : suc (suc n) ≡ 1 = eqb-true _ _ f in omega (arith, g)

some_word : (words : List ℕ) → (length words == 1) ≡ true → 0 < length words
some_word [] e = absurd (cc)
some_word (x ∷ words) e = omega arith

module _ (c : Running) where
  open c use {story, a, p, accepted, holds, full, m, count, counts, routine, place, callers, locals, world, good}

  -- the word is stored, and goes on
  abbrev pub storing : Operand → items.Operand → Destination → List Instruction
  storing i o d =
      plain operations.StoreWord (Variable 250 ∷ i ∷ assigned_word o ∷ []) ∷ passed_on d (assigned_word o)

  abbrev pub onward : Destination → List ℕ → List ℕ → ℕ → Situation → stack.Next
  onward d before rest w situation = stack.deliver d w (stack.after (at c before) rest situation)

  module _ (q v w : ℕ) (o : items.Operand) (d : Destination) (before rest : List ℕ) (known : IsObjectHere c v)
      (is_o : IsOperandHere c o) (is_d : IsHere c d) (room : length rest ≤ 48) (followed : next_place c < length m)
      (tables : List PropertyTable) where
    abbrev next_objects : List ℕ → ℕ → Objects
    next_objects words x = with_words v q (slice_set words x w) world.objects

    stores_led : (words memory : List ℕ) (there x : ℕ) (i : Operand) → world.objects.properties v q ≡ Some words
        → x < length words → word_of memory 250 ≡ words_at c tables v q
        → operand_value i (at_words (around c) memory locals rest world.text)
        ≡ done x (at_words (around c) memory locals rest world.text)
        → HoldsWord c 1 o w memory → Works c tables before rest memory there (storing i o d)
        → LedFrom c before (onward d before rest w (with_objects (next_objects words x) (situation_here c)))
    unfolding perform
    stores_led words memory there x i e lt address value word t =
        let at_words_of = words_at c tables v q in
        let k = plain operations.StoreWord (Variable 250 ∷ i ∷ assigned_word o ∷ []) in
        let st = at_words (around c) memory locals rest world.text in
        let after = there + length (bytes_of k) in
        let here_is : words_place (tables_base (length p.objects) memory) tables v q ≡ at_words_of =
        ap (λ n. words_place n tables v q) (same_base c (length p.objects) memory t.scratch) in
        let change = (acts_on c tables memory rest t.has).stores (point there world.fuel) after v q x w words known e
        lt in
        let to = at_words (around c) change.memory locals rest world.text in
        let makes = made c memory rest rest world.text there k (at_words_of ∷ x ∷ w ∷ []) t.scratch t.from
        (record { least = omega arith; most = omega arith; result_fits = tt; branch_fits = tt })
        (first_held m there k (passed_on d (assigned_word o)) t.held)
        (three_operands st st st st (Variable 250) i (assigned_word o) at_words_of x w
        (variable_value (around c) memory locals rest world.text 250 at_words_of
        (reads_word c memory 250 at_words_of (omega arith) (omega arith) address))
        value (word_value c 1 o w memory rest (omega arith) t.scratch is_o word)) in
        passed_led c change.memory (next_objects words x)
        (stored_objects c memory change.memory t.scratch change.keeps (next_objects words x) change.tables change.has)
        (high_same c memory change.memory t.scratch change.keeps) o w d before rest after is_o
        (word_still c 1 o w memory change.memory
        (variable_same c memory change.memory t.scratch change.keeps 249 (omega arith) (omega arith)) word)
        is_d room (omega (arith, t.from))
        (others_held m there k (passed_on d (assigned_word o)) t.held)
        (omega (
          arith,
          t.end,
          length-append (bytes_of k) (flat_map bytes_of (passed_on d (assigned_word o))),
        ))
        (leads_then (point (here c) world.fuel) (point there world.fuel) (point after world.fuel)
        (at_words (around c) m locals before world.text) st to t.leads
        (one_step (point there world.fuel) (point after world.fuel) st to
        (makes
        ∙ ap (λ n. store_word (point there world.fuel) after n x w st) (sym here_is) ∙ change.does)))

    -- The property has one word

    abbrev Single : List ℕ → Part ℕ
    Single words = test_single words >>= λ _. write_words v q (w ∷ []) >>= λ _. source.give w

    single_led : (words memory : List ℕ) → (b : Bool) → (length words == 1) ≡ b
        → world.objects.properties v q ≡ Some words
        → word_of memory 250 ≡ words_at c tables v q → HoldsWord c 1 o w memory
        → SingleTested c b tables before rest memory (storing (Small 0) o d)
        → LedFrom c before (stack.after_part
        (bound {A = Unit {0}}
        ((if b then source.give tt else source.fault causes.PropertyOfManyWords) (situation_here c))
        (λ _. write_words v q (w ∷ []) >>= λ _. source.give w)) (onward d before rest))
    single_led words memory true single e address word t =
        subst (λ ws. LedFrom c before
        (onward d before rest w (with_objects (with_words v q ws world.objects) (situation_here c))))
        (only_word words w single)
        (stores_led words t.memory t.there 0 (Small 0) e (some_word words single)
        (t.others 250 (omega arith) (λ f. omega (arith, f)) ∙ address)
        (small_value (at_words (around c) t.memory locals rest world.text) 0)
        (word_still c 1 o w memory t.memory (t.others 249 (omega arith) (λ f. omega (arith, f))) word) t.works)
    single_led words memory false single e address word t =
        subst (LedFrom c before)
        (sym (after_bound {A = Unit {0}} (source.fault causes.PropertyOfManyWords (situation_here c))
        (λ _. write_words v q (w ∷ []) >>= λ _. source.give w) (onward d before rest)))
        (fault_led c causes.PropertyOfManyWords before
        (λ _ situation. stack.after_part ((write_words v q (w ∷ []) >>= λ _. source.give w) situation)
        (onward d before rest)) t)

    pub single_found : (other : List ℕ) (words : Option (List ℕ)) → world.objects.properties v q ≡ words
        → HoldsWord c 1 o w other
        → Finds c words tables before rest other v q (tested_single a false ++ storing (Small 0) o d)
        → LedFrom c before (stack.after_part
        (bound (test_provided words (situation_here c)) Single) (onward d before rest))
    single_found other None e word t =
        subst (LedFrom c before)
        (sym (after_bound {A = List ℕ} (source.fault causes.NoSuchProperty (situation_here c)) Single
        (onward d before rest)))
        (fault_led c causes.NoSuchProperty before
        (λ words situation. stack.after_part (Single words situation) (onward d before rest)) t)
    single_found other (Some words) e word t =
        single_led words t.memory (length words == 1) refl e t.address
        (word_still c 1 o w other t.memory (t.others 249 (omega arith) (λ f. omega (arith, f))) word)
        (single_tests c tables before rest t.memory t.there v q words (storing (Small 0) o d) followed known e t.address
        t.works)

    -- the same of a property that has one word wherever it is provided
    pub one_found : (other : List ℕ) (words : Option (List ℕ)) → world.objects.properties v q ≡ words
        → ((ws : List ℕ) → words ≡ Some ws → (length ws == 1) ≡ true) → HoldsWord c 1 o w other
        → Finds c words tables before rest other v q (storing (Small 0) o d)
        → LedFrom c before (stack.after_part
        (bound (test_provided words (situation_here c)) Single) (onward d before rest))
    one_found other None e one word t = single_found other None e word t
    one_found other (Some words) e one word t =
        let kept : Kept c tables before rest t.memory (storing (Small 0) o d) =
        record { memory = t.memory; there = t.there; works = t.works; others = λ x low differs. refl } in
        single_led words t.memory (length words == 1) refl e t.address
        (word_still c 1 o w other t.memory (t.others 249 (omega arith) (λ f. omega (arith, f))) word)
        (subst (λ b. SingleTested c b tables before rest t.memory (storing (Small 0) o d)) (sym (one words refl)) kept)

    -- A word at an index

    module _ (x : ℕ) (i : items.Operand) (is_i : IsOperandHere c i) where
      abbrev Indexed : List ℕ → Part ℕ
      Indexed words = test_word x words >>= λ _. write_words v q (slice_set words x w) >>= λ _. source.give w

      index_led : (words memory : List ℕ) → (b : Bool) → is_entry (length words) x ≡ b
          → world.objects.properties v q ≡ Some words
          → word_of memory 250 ≡ words_at c tables v q → HoldsWord c 1 o w memory → HoldsWord c 4 i x memory
          → WordTested c b tables before rest memory (storing (word_in 4 i) o d)
          → LedFrom c before (stack.after_part
          (bound {A = Unit {0}}
          ((if b then source.give tt else source.fault causes.IndexOutOfRange) (situation_here c))
          (λ _. write_words v q (slice_set words x w) >>= λ _. source.give w)) (onward d before rest))
      index_led words memory true index e address word index_word t =
          let lt = ltb-true _ _ (and_parts (nat_lt x 32768) (nat_lt x (length words)) index).1 in
          stores_led words t.memory t.there x (word_in 4 i) e lt
          (t.others 250 (omega arith) (λ f. omega (arith, f)) ∙ address)
          (word_value c 4 i x t.memory rest (omega arith) t.works.scratch is_i
          (word_still c 4 i x memory t.memory (t.others 252 (omega arith) (λ f. omega (arith, f))) index_word))
          (word_still c 1 o w memory t.memory (t.others 249 (omega arith) (λ f. omega (arith, f))) word) t.works
      index_led words memory false index e address word index_word t =
          subst (LedFrom c before)
          (sym (after_bound {A = Unit {0}} (source.fault causes.IndexOutOfRange (situation_here c))
          (λ _. write_words v q (slice_set words x w) >>= λ _. source.give w) (onward d before rest)))
          (fault_led c causes.IndexOutOfRange before
          (λ _ situation. stack.after_part ((write_words v q (slice_set words x w) >>= λ _. source.give w) situation)
          (onward d before rest)) t)

      pub index_found : (other : List ℕ) (words : Option (List ℕ)) → world.objects.properties v q ≡ words
          → HoldsWord c 1 o w other → HoldsWord c 4 i x other
          → Finds c words tables before rest other v q (tested_word a (word_in 4 i) ++ storing (word_in 4 i) o d)
          → LedFrom c before (stack.after_part
          (bound (test_provided words (situation_here c)) Indexed) (onward d before rest))
      index_found other None e word index_word t =
          subst (LedFrom c before)
          (sym (after_bound {A = List ℕ} (source.fault causes.NoSuchProperty (situation_here c)) Indexed
          (onward d before rest)))
          (fault_led c causes.NoSuchProperty before
          (λ words situation. stack.after_part (Indexed words situation) (onward d before rest)) t)
      index_found other (Some words) e word index_word t =
          let held = word_still c 4 i x other t.memory (t.others 252 (omega arith) (λ f. omega (arith, f)))
          index_word in
          index_led words t.memory (is_entry (length words) x) refl e t.address
          (word_still c 1 o w other t.memory (t.others 249 (omega arith) (λ f. omega (arith, f))) word) held
          (word_tests c tables before rest t.memory t.there v q x (word_in 4 i) words (storing (word_in 4 i) o d)
          followed known e t.address
          (λ memory scratch same. word_value c 4 i x memory rest (omega arith) scratch is_i
          (word_still c 4 i x t.memory memory (same 252 (omega arith) (λ f. omega (arith, f))) held)) t.works)
