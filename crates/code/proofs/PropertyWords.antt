-- Items that read a word of those of a property.
use Rattle.std.proofs.Common.{◌≡◌, ℕ, ◌%◌, ◌<◌, ◌≤◌, List, [], ◌∷◌, ◌++◌, length, slice_index, Option, Some, None, Bool}
use Rattle.std.proofs.Common.{true, false, refl, sym, ap, ◌∙◌, subst, arith}
use Rattle.std.specs.Prelude.{nat_lt, if◌then◌else◌}
use Rattle.std.proofs.lemmas.Bool.{and_parts, ltb-true}
use Rattle.zcore.specs.declared.instruction.Operand.{Operand}
use Rattle.zcore.specs.declared.instruction.Operand.TheVariants.{Variable}
use Rattle.zcore.specs.declared.instruction.Operation.TheVariants as operations
use Rattle.zcore.specs.Instruction.{Instruction}
use Rattle.zcore.specs.Execution.{perform, load_word}
use Rattle.meaning.specs.declared.cause.Cause.TheVariants as causes
use Rattle.meaning.specs.Accepted.{IsProperty}
use Rattle.meaning.specs.World.{Situation, Part, bound, ◌>>=◌, test_provided, test_word}
use Rattle.meaning.specs.World as source
use Rattle.code_drafts.specs.Items.{Destination}
use Rattle.code_drafts.specs.Items as items
use Rattle.code_items.specs.Stack as stack
use Rattle.code.specs.Tables.{words_place, PropertyTable}
use Rattle.code.specs.Region.{tables_base}
use Rattle.code_drafts.specs.Instructions.{giving, result_in}
use Rattle.code_instructions.specs.ObjectCode.{provided, tested_word, assigned_word, at_object}
use Rattle.code.specs.ItemCode.{is_entry}
use Rattle.code.proofs.Memory.{word_of}
use Rattle.code.proofs.Parts.{machine as at_words}
use Rattle.code.proofs.Steps.{point, first_held, two_operands, variable_value}
use Rattle.code.proofs.AddressLengths.{one_length}
use Rattle.code.proofs.Arriving.{Running, at, around, LedFrom, situation_here, ArrivesAt}
use Rattle.code.proofs.Delivering.{result_small}
use Rattle.code.proofs.Alone.{by_operand, alone_count, IsOperandHere, IsHere, next_place, gives_here_led}
use Rattle.code.proofs.StoringSteps.{after_bound}
use Rattle.code.proofs.TestedObjects.{IsObjectHere, objects_here, object_tests, tests_led}
use Rattle.code.proofs.Working.{Works, HoldsWord, fault_led, reads_word, word_value, word_still, same_base}
use Rattle.code.proofs.Providing.{words_at, acts_on, Finds, finds}
use Rattle.code.proofs.CountedWords.{WordTested, word_tests}
use Rattle.code.proofs.Pulling.{opens, pulls, works_at}

module _ (c : Running) where
  open c use {story, a, p, accepted, holds, full, m, count, counts, routine, place, callers, locals, world, good}

  -- what is done after the test of the object
  abbrev loading : ℕ → items.Operand → Destination → Operand → List Instruction
  loading q i d x =
      provided a x q ++ (tested_word a (assigned_word i)
      ++ giving operations.LoadWord (Variable 250 ∷ assigned_word i ∷ []) (result_in d) ∷ [])

  -- and what it comes to, by the words of the property

  abbrev Load : ℕ → List ℕ → Part ℕ
  Load x words = test_word x words >>= λ _. source.give (slice_index words x)

  abbrev onward : Destination → List ℕ → List ℕ → ℕ → Situation → stack.Next
  onward d before rest w situation = stack.deliver d w (stack.after (at c before) rest situation)

  module _ (q v x : ℕ) (i : items.Operand) (d : Destination) (before rest other : List ℕ) (known : IsObjectHere c v)
      (is_i : IsOperandHere c i) (is_d : IsHere c d) (room : length rest ≤ 48) (followed : next_place c < length m)
      (tables : List PropertyTable) where
    abbrev last : List Instruction
    last = giving operations.LoadWord (Variable 250 ∷ assigned_word i ∷ []) (result_in d) ∷ []

    -- the word is loaded
    loads_led : (words memory : List ℕ) (there : ℕ) → world.objects.properties v q ≡ Some words → x < length words
        → word_of memory 250 ≡ words_at c tables v q → HoldsWord c 1 i x memory
        → Works c tables before rest memory there last
        → LedFrom c before (onward d before rest (slice_index words x) (situation_here c))
    unfolding perform
    loads_led words memory there e lt address word t =
        let w = words_at c tables v q in
        let k = giving operations.LoadWord (Variable 250 ∷ assigned_word i ∷ []) (result_in d) in
        let st = at_words (around c) memory locals rest world.text in
        let here_is : words_place (tables_base (length p.objects) memory) tables v q ≡ w =
        ap (λ n. words_place n tables v q) (same_base c (length p.objects) memory t.scratch) in
        gives_here_led c operations.LoadWord (Variable 250 ∷ assigned_word i ∷ []) d (slice_index words x) there before
        rest rest memory (w ∷ x ∷ []) is_d t.scratch room t.from
        (record { least = omega arith; most = omega arith; result_fits = result_small d; branch_fits = tt })
        (first_held m there k [] t.held) (omega (arith, t.end, one_length k))
        (two_operands st st st (Variable 250) (assigned_word i) w x
        (variable_value (around c) memory locals rest world.text 250 w
        (reads_word c memory 250 w (omega arith) (omega arith) address))
        (word_value c 1 i x memory rest (omega arith) t.scratch is_i word))
        (λ after. ap (λ n. load_word (point there world.fuel) after (Some (result_in d)) n x st) (sym here_is)
        ∙ (acts_on c tables memory rest t.has).loads (point there world.fuel) after (Some (result_in d)) v q x words
        known e lt)
        t.leads

    -- the index is tested
    indexed_led : (words memory : List ℕ) → (b : Bool) → is_entry (length words) x ≡ b
        → world.objects.properties v q ≡ Some words
        → word_of memory 250 ≡ words_at c tables v q → HoldsWord c 1 i x memory
        → WordTested c b tables before rest memory last
        → LedFrom c before (stack.after_part
        (bound {A = Unit {0}}
        ((if b then source.give tt else source.fault causes.IndexOutOfRange) (situation_here c))
        (λ _. source.give (slice_index words x))) (onward d before rest))
    indexed_led words memory true index e address word t =
        let lt = ltb-true _ _ (and_parts (nat_lt x 32768) (nat_lt x (length words)) index).1 in
        loads_led words t.memory t.there e lt (t.others 250 (omega arith) (λ f. omega (arith, f)) ∙ address)
        (word_still c 1 i x memory t.memory (t.others 249 (omega arith) (λ f. omega (arith, f))) word) t.works
    indexed_led words memory false index e address word t =
        subst (LedFrom c before)
        (sym (after_bound {A = Unit {0}} (source.fault causes.IndexOutOfRange (situation_here c))
        (λ _. source.give (slice_index words x)) (onward d before rest)))
        (fault_led c causes.IndexOutOfRange before
        (λ _ situation. stack.after_part (source.give (slice_index words x) situation) (onward d before rest)) t)

    -- the words are found
    found_led : (words : Option (List ℕ)) → world.objects.properties v q ≡ words → HoldsWord c 1 i x other
        → Finds c words tables before rest other v q (tested_word a (assigned_word i) ++ last)
        → LedFrom c before (stack.after_part
        (bound (test_provided words (situation_here c)) (Load x)) (onward d before rest))
    found_led None e word t =
        subst (LedFrom c before)
        (sym (after_bound {A = List ℕ} (source.fault causes.NoSuchProperty (situation_here c)) (Load x)
        (onward d before rest)))
        (fault_led c causes.NoSuchProperty before
        (λ words situation. stack.after_part (Load x words situation) (onward d before rest)) t)
    found_led (Some words) e word t =
        let held = word_still c 1 i x other t.memory (t.others 249 (omega arith) (λ f. omega (arith, f))) word in
        indexed_led words t.memory (is_entry (length words) x) refl e t.address held
        (word_tests c tables before rest t.memory t.there v q x (assigned_word i) words last followed known e t.address
        (λ memory scratch same. word_value c 1 i x memory rest (omega arith) scratch is_i
        (word_still c 1 i x t.memory memory (same 249 (omega arith) (λ f. omega (arith, f))) held)) t.works)

  pub property_word_led : (q : ℕ) (o i : items.Operand) (d : Destination) (s : List ℕ) → IsProperty q
      → IsOperandHere c o → IsOperandHere c i → IsHere c d → length s ≤ 48 → ArrivesAt c (items.property_word q o i d)
      → LedFrom c s (stack.with_operand i (situation_here c) s
      (λ x left. stack.with_operand o (situation_here c) left
      (λ v rest. stack.gives (stack.word_of_property p q v x) d rest (at c s))))
  property_word_led q o i d s named is is_i is_d short stands =
      let item = items.property_word q o i d in
      let same : q % 256 ≡ q = omega (arith, named.1) in
      by_operand i (situation_here c) s (LedFrom c s)
      (λ x left. stack.with_operand o (situation_here c) left
      (λ v rest. stack.gives (stack.word_of_property p q v x) d rest (at c s))) tt
      (λ x left first.
      let h = opens c item s refl stands in
      let b = pulls c 1 i (at_object a (objects_here c) o (loading (q % 256) i d)) s s m x left (omega arith)
      (omega arith) first h.reached h.end in
      tests_led c o s left b.memory (loading (q % 256) i d)
      (λ v. source.words_provided v q >>= λ provided. test_provided provided >>= λ words. Load x words)
      (λ rest. onward d s rest)
      (object_tests c o (loading (q % 256) i d) s left b.memory is b.reached b.end stands.followed)
      (λ v rest second known t.
      let w = works_at c v s rest b.memory (loading (q % 256) i d) t in
      let memory = t.reached.memory in
      let there = subst (λ n. Works c t.reached.scratch.stored.tables s rest memory t.reached.q
      (loading n i d t.operand)) same w in
      found_led q v x i d s rest memory known is_i is_d
      (omega (
        arith,
        short,
        alone_count i (situation_here c) s x left first,
        alone_count o (situation_here c) left v rest second,
      )) stands.followed t.reached.scratch.stored.tables (world.objects.properties v q) refl
      (word_still c 1 i x b.memory memory (t.reached.unwritten 249 (omega arith) (omega arith)) b.word)
      (finds c t.reached.scratch.stored.tables s rest memory t.reached.q v q t.operand
      (tested_word a (assigned_word i)
      ++ giving operations.LoadWord (Variable 250 ∷ assigned_word i ∷ []) (result_in d) ∷ [])
      stands.followed known named t.value there)))
