-- Items that assign a property, or a word of those of a property.
use Rattle.std.proofs.Common.{◌≡◌, ℕ, ◌%◌, ◌<◌, ◌≤◌, List, [], ◌∷◌, ◌++◌, length, slice_set, Bool, true, false, refl}
use Rattle.std.proofs.Common.{subst, arith}
use Rattle.zcore.specs.declared.instruction.Operand.{Operand}
use Rattle.zcore.specs.declared.instruction.Operand.TheVariants.{Small}
use Rattle.zcore.specs.Instruction.{Instruction}
use Rattle.zcore.specs.Parts.{operand_value}
use Rattle.zcore.specs.State.{done}
use Rattle.meaning.specs.Accepted.{IsProperty}
use Rattle.meaning.specs.World.{◌>>=◌, test_provided, test_word, test_single, write_words}
use Rattle.meaning.specs.World as source
use Rattle.code_drafts.specs.Items.{Destination}
use Rattle.code_drafts.specs.Items as items
use Rattle.code_items.specs.Stack as stack
use Rattle.code.specs.Tables.{PropertyTable}
use Rattle.code_drafts.specs.Addresses.{has_one_word}
use Rattle.code_drafts.specs.Instructions.{pulled_into, word_in}
use Rattle.code_instructions.specs.ObjectCode.{provided, tested_word, tested_single, at_object}
use Rattle.code.specs.HeldProgram.{sizes_of}
use Rattle.code.proofs.Parts.{machine as at_words}
use Rattle.code.proofs.Arriving.{Running, around, at, LedFrom, situation_here, ArrivesAt}
use Rattle.code.proofs.Alone.{by_operand, alone_count, IsOperandHere, IsHere, next_place}
use Rattle.code.proofs.TestedObjects.{IsObjectHere, objects_here, object_tests, single_here, tests_led}
use Rattle.code.proofs.Working.{Works, HoldsWord, word_still}
use Rattle.code.proofs.Providing.{finds}
use Rattle.code.proofs.Pulling.{opens, pulls, works_at}
use Rattle.code.proofs.StoringProperties.{storing, onward, one_found, single_found, index_found}

module _ (c : Running) where
  open c use {story, a, p, accepted, holds, full, m, count, counts, routine, place, callers, locals, world, good}

  -- The items

  abbrev assigning : Bool → ℕ → items.Operand → Destination → Operand → List Instruction
  assigning single q o d x = provided a x q ++ (tested_single a single ++ storing c (Small 0) o d)

  -- by whether the property has one word wherever it is provided
  module _ (q v w : ℕ) (o : items.Operand) (d : Destination) (s rest : List ℕ) (named : IsProperty q)
      (known : IsObjectHere c v) (is_o : IsOperandHere c o) (is_d : IsHere c d) (room : length rest ≤ 48)
      (followed : next_place c < length m) (tables : List PropertyTable) (memory : List ℕ) (there : ℕ) (x : Operand)
      (value : operand_value x (at_words (around c) memory locals rest world.text)
      ≡ done v (at_words (around c) memory locals rest world.text)) (word : HoldsWord c 1 o w memory)
    where
      assigned_by : (single : Bool) → has_one_word (sizes_of p) (q % 256) ≡ single
          → Works c tables s rest memory there (assigning single q o d x)
          → LedFrom c s (stack.after_part
          ((source.words_provided v q >>= λ provided. test_provided provided >>= λ words.
          test_single words >>= λ _. write_words v q (w ∷ []) >>= λ _. source.give w) (situation_here c))
          (onward c d s rest))
      assigned_by true single works =
          one_found c q v w o d s rest known is_o is_d room followed tables memory (world.objects.properties v q) refl
          (λ ws e. single_here c v q ws named known single e) word
          (finds c tables s rest memory there v q x (storing c (Small 0) o d) followed known named value works)
      assigned_by false single works =
          single_found c q v w o d s rest known is_o is_d room followed tables memory (world.objects.properties v q) refl
          word
          (finds c tables s rest memory there v q x (tested_single a false ++ storing c (Small 0) o d) followed known
          named value works)

  pub assign_property_led : (q : ℕ) (b o : items.Operand) (d : Destination) (s : List ℕ) → IsProperty q
      → IsOperandHere c b → IsOperandHere c o → IsHere c d → length s ≤ 48
      → ArrivesAt c (items.assign_property q b o d)
      → LedFrom c s (stack.with_operand o (situation_here c) s
      (λ w left. stack.with_operand b (situation_here c) left
      (λ v rest. stack.gives (stack.assigned_property p q v w) d rest (at c s))))
  assign_property_led q b o d s named is is_o is_d short stands =
      let item = items.assign_property q b o d in
      let same : q % 256 ≡ q = omega (arith, named.1) in
      by_operand o (situation_here c) s (LedFrom c s)
      (λ w left. stack.with_operand b (situation_here c) left
      (λ v rest. stack.gives (stack.assigned_property p q v w) d rest (at c s))) tt
      (λ w left first.
      let h = opens c item s refl stands in
      let single = has_one_word (sizes_of p) (q % 256) in
      let act : Operand → List Instruction = assigning single (q % 256) o d in
      let k = pulls c 1 o (at_object a (objects_here c) b act) s s m w left (omega arith)
      (omega arith) first h.reached h.end in
      tests_led c b s left k.memory act
      (λ v. source.words_provided v q >>= λ provided. test_provided provided >>= λ words.
      test_single words >>= λ _. write_words v q (w ∷ []) >>= λ _. source.give w)
      (λ rest. onward c d s rest)
      (object_tests c b act s left k.memory is k.reached k.end stands.followed)
      (λ v rest second known t.
      let memory = t.reached.memory in
      let tables = t.reached.scratch.stored.tables in
      let there = subst (λ n. Works c tables s rest memory t.reached.q (assigning single n o d t.operand)) same
      (works_at c v s rest k.memory act t) in
      assigned_by q v w o d s rest named known is_o is_d
      (omega (
        arith,
        short,
        alone_count o (situation_here c) s w left first,
        alone_count b (situation_here c) left v rest second,
      )) stands.followed tables memory t.reached.q t.operand t.value
      (word_still c 1 o w k.memory memory (t.reached.unwritten 249 (omega arith) (omega arith)) k.word)
      single refl there))

  abbrev assigning_word : ℕ → items.Operand → items.Operand → Destination → Operand → List Instruction
  assigning_word q i o d x = provided a x q ++ (tested_word a (word_in 4 i) ++ storing c (word_in 4 i) o d)

  pub assign_property_word_led : (q : ℕ) (b i o : items.Operand) (d : Destination) (s : List ℕ) → IsProperty q
      → IsOperandHere c b → IsOperandHere c i → IsOperandHere c o → IsHere c d → length s ≤ 48
      → ArrivesAt c (items.assign_property_word q b i o d)
      → LedFrom c s (stack.with_operand o (situation_here c) s
      (λ w left. stack.with_operand i (situation_here c) left
      (λ x more. stack.with_operand b (situation_here c) more
      (λ v rest. stack.gives (stack.assigned_property_word p q v x w) d rest (at c s)))))
  assign_property_word_led q b i o d s named is is_i is_o is_d short stands =
      let item = items.assign_property_word q b i o d in
      let same : q % 256 ≡ q = omega (arith, named.1) in
      by_operand o (situation_here c) s (LedFrom c s)
      (λ w left. stack.with_operand i (situation_here c) left
      (λ x more. stack.with_operand b (situation_here c) more
      (λ v rest. stack.gives (stack.assigned_property_word p q v x w) d rest (at c s)))) tt
      (λ w left first.
      by_operand i (situation_here c) left (LedFrom c s)
      (λ x more. stack.with_operand b (situation_here c) more
      (λ v rest. stack.gives (stack.assigned_property_word p q v x w) d rest (at c s))) tt
      (λ x more second.
      let h = opens c item s refl stands in
      let act : Operand → List Instruction = assigning_word (q % 256) i o d in
      let code = at_object a (objects_here c) b act in
      let j = pulls c 1 o (pulled_into 4 i ++ code) s s m w left (omega arith) (omega arith) first h.reached h.end in
      let k = pulls c 4 i code s left j.memory x more (omega arith) (omega arith) second j.reached j.end in
      tests_led c b s more k.memory act
      (λ v. source.words_provided v q >>= λ provided. test_provided provided >>= λ words.
      test_word x words >>= λ _. write_words v q (slice_set words x w) >>= λ _. source.give w)
      (λ rest. onward c d s rest)
      (object_tests c b act s more k.memory is k.reached k.end stands.followed)
      (λ v rest third known t.
      let memory = t.reached.memory in
      let tables = t.reached.scratch.stored.tables in
      let there = subst (λ n. Works c tables s rest memory t.reached.q (assigning_word n i o d t.operand)) same
      (works_at c v s rest k.memory act t) in
      index_found c q v w o d s rest known is_o is_d
      (omega (
        arith,
        short,
        alone_count o (situation_here c) s w left first,
        alone_count i (situation_here c) left x more second,
        alone_count b (situation_here c) more v rest third,
      )) stands.followed tables x i is_i memory (world.objects.properties v q) refl
      (word_still c 1 o w k.memory memory (t.reached.unwritten 249 (omega arith) (omega arith))
      (word_still c 1 o w j.reached.memory k.memory (k.others 249 (omega arith) (λ f. omega (arith, f)))
      (word_still c 1 o w j.memory j.reached.memory (j.reached.unwritten 249 (omega arith) (omega arith)) j.word)))
      (word_still c 4 i x k.memory memory (t.reached.unwritten 252 (omega arith) (omega arith)) k.word)
      (finds c tables s rest memory t.reached.q v q t.operand
      (tested_word a (word_in 4 i) ++ storing c (word_in 4 i) o d)
      stands.followed known named t.value there))))
