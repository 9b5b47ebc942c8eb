-- The number of the words of a property is tested.
use Rattle.std.proofs.Common.{◌≡◌, ◌≢◌, ℕ, ◌+◌, ◌*◌, ◌/◌, ◌<◌, ◌≤◌, zero, suc, List, [], ◌∷◌, ◌++◌, length, Some, Bool}
use Rattle.std.proofs.Common.{true, false, refl, sym, ap, ◌∙◌, subst, arith}
use Rattle.std.specs.Prelude.{nat_le, ◌==◌, ◌||◌}
use Rattle.std.proofs.lemmas.Bool.{lt-leb, ne_eqb}
use Rattle.zcore.specs.declared.instruction.Operand.{Operand}
use Rattle.zcore.specs.declared.instruction.Operand.TheVariants.{Large, Small, Variable}
use Rattle.zcore.specs.declared.instruction.Operation.TheVariants as operations
use Rattle.zcore.specs.Arithmetic.{quotient}
use Rattle.zcore.specs.Instruction.{Instruction}
use Rattle.zcore.specs.InstructionBytes.{bytes_of}
use Rattle.zcore.specs.ObjectProperties.{get_property_length}
use Rattle.zcore.specs.Parts.{operand_value}
use Rattle.zcore.specs.State.{done}
use Rattle.zcore.specs.Execution.{perform, give_result}
use Rattle.meaning.specs.declared.cause.Cause.TheVariants as causes
use Rattle.code.specs.Region.{tables_base}
use Rattle.code.specs.Tables.{words_place, PropertyTable}
use Rattle.code_drafts.specs.Addresses.{fault_address}
use Rattle.code_drafts.specs.Instructions.{giving, branching, fail}
use Rattle.code_instructions.specs.ObjectCode.{length_at, tested_single, tested_word, offset_over_operand}
use Rattle.code.specs.ItemCode.{is_entry}
use Rattle.code.proofs.Memory.{word_of, with_variable}
use Rattle.code.proofs.Parts.{machine as at_words}
use Rattle.code.proofs.Steps.{point, one_operand, two_operands, small_value, variable_value}
use Rattle.code.proofs.Fitting.{Shaped}
use Rattle.code.proofs.Arriving.{Running, around}
use Rattle.code.proofs.Temporaries.{Scratch, word_written, word_unwritten}
use Rattle.code.proofs.Alone.{next_place}
use Rattle.code.proofs.Operating.{divides}
use Rattle.code.proofs.TestedWords.{entry_between}
use Rattle.code.proofs.Bounding.{bounds}
use Rattle.code.proofs.TestedObjects.{IsObjectHere}
use Rattle.code.proofs.Working.{Works, writes, reads_word, same_base, FailsWith}
use Rattle.code.proofs.FaultTests.{Passed, tests}
use Rattle.code.proofs.Providing.{words_at, acts_on, placed_on}

-- half of twice as many, where these are few
halved : (n : ℕ) → n ≤ 32 → quotient (2 * n) 2 ≡ n
unfolding quotient
halved n few =
    let e : nat_le 32768 (2 * n) ≡ false = lt-leb 32768 (2 * n) (omega (arith, few)) in
    let f : 2 * n / 2 ≡ n = omega arith in
    rw (e, f) refl

module _ (c : Running) where
  open c use {story, a, p, accepted, holds, full, m, count, counts, routine, place, callers, locals, world, good}

  -- The number of words

  -- how many bytes the words have goes to a variable of the compiler
  record Counted (tables : List PropertyTable) (before rest old : List ℕ) (count : ℕ)
      (is : List Instruction) : Type 0 where
    memory : List ℕ
    there : ℕ
    works : Works c tables before rest memory there is
    holds_count : word_of memory 251 ≡ count
    others : (v : ℕ) → 248 ≤ v → v ≢ 251 → word_of memory v ≡ word_of old v

  counted : (tables : List PropertyTable) (before rest old : List ℕ) (there o q : ℕ) (words : List ℕ)
      (is : List Instruction)
      → IsObjectHere c o → world.objects.properties o q ≡ Some words → word_of old 250 ≡ words_at c tables o q
      → Works c tables before rest old there (length_at 250 251 ∷ is)
      → Counted tables before rest old (2 * length words) is
  unfolding perform
  counted tables before rest old there o q words is known e address t =
      let st = at_words (around c) old locals rest world.text in
      let i = length_at 250 251 in
      let w = words_at c tables o q in
      let n = 2 * length words in
      let shaped : Shaped i =
      record { least = omega arith; most = omega arith; result_fits = omega arith; branch_fits = tt } in
      let here_is : words_place (tables_base (length p.objects) old) tables o q ≡ w =
      ap (λ k. words_place k tables o q) (same_base c (length p.objects) old t.scratch) in
      record {
        memory = with_variable old 251 n;
        there = there + length (bytes_of i);
        works = writes c tables before rest old there 251 n operations.GetPropertyLength (Variable 250 ∷ []) (w ∷ []) is
            (omega arith) (omega arith) shaped
            (one_operand st st (Variable 250) w
            (variable_value (around c) old locals rest world.text 250 w
            (reads_word c old 250 w (omega arith) (omega arith) address)))
            (λ after. ap (λ k. get_property_length (point there world.fuel) after (Some 251) k st) (sym here_is)
            ∙ (acts_on c tables old rest t.has).long (point there world.fuel) after (Some 251) o q words known e) t;
        holds_count = word_written c old 251 n t.scratch (omega arith) (omega arith);
        others = λ v low differs. word_unwritten c old 251 n v t.scratch (omega arith) (omega arith) low differs;
      }

  -- memory in which the address is still there, and every word below and above the counter
  pub record Kept (tables : List PropertyTable) (before rest old : List ℕ) (is : List Instruction) : Type 0 where
    pub memory : List ℕ
    pub there : ℕ
    pub works : Works c tables before rest memory there is
    pub others : (v : ℕ) → 248 ≤ v → v ≢ 251 → word_of memory v ≡ word_of old v

  -- a property has one word, or there is the fault
  abbrev pub SingleTested : Bool → List PropertyTable → List ℕ → List ℕ → List ℕ → List Instruction → Type 0
  SingleTested true tables before rest old is = Kept tables before rest old is
  SingleTested false tables before rest old is = FailsWith c causes.PropertyOfManyWords before

  pub double_single : (n : ℕ) → ((2 * n == 2) || false) ≡ (n == 1)
  double_single zero = refl
  double_single (suc zero) = refl
  double_single (suc (suc n)) =
      let e : (2 * suc (suc n) == 2) ≡ false = ne_eqb _ _ (λ f. omega (arith, f)) in
      let f : (suc (suc n) == 1) ≡ false = ne_eqb _ _ (λ f. omega (arith, f)) in
      rw (e, f) refl

  pub single_tests : (tables : List PropertyTable) (before rest old : List ℕ) (there o q : ℕ) (words : List ℕ)
      (is : List Instruction) → next_place c < length m
      → IsObjectHere c o → world.objects.properties o q ≡ Some words → word_of old 250 ≡ words_at c tables o q
      → Works c tables before rest old there (tested_single a false ++ is)
      → SingleTested (length words == 1) tables before rest old is
  unfolding perform bytes_of
  single_tests tables before rest old there o q words is followed known e address t =
      let test = branching operations.JumpIfEqual (Variable 251 ∷ Small 2 ∷ []) true 6 in
      let k = counted tables before rest old there o q words
      (test ∷ (fail (fault_address a causes.PropertyOfManyWords) ++ is)) known e address t in
      let n = 2 * length words in
      let st = at_words (around c) k.memory locals rest world.text in
      let shaped : Shaped test =
      record { least = omega arith; most = omega arith; result_fits = tt; branch_fits = omega arith } in
      let passed = tests c causes.PropertyOfManyWords tables before rest k.memory k.there operations.JumpIfEqual
      (Variable 251 ∷ Small 2 ∷ []) (n ∷ 2 ∷ []) true ((n == 2) || false) is followed shaped
      (two_operands st st st (Variable 251) (Small 2) n 2
      (variable_value (around c) k.memory locals rest world.text 251 n
      (reads_word c k.memory 251 n (omega arith) (omega arith) k.holds_count)) (small_value st 2))
      (λ after. refl) (omega arith) k.works in
      go (length words == 1) k.memory (k.there + 4 + 4)
      (subst (λ b. Passed c b causes.PropertyOfManyWords tables before rest k.memory (k.there + 4 + 4) is)
      (double_single (length words)) passed) k.others
    where
      go : (b : Bool) (memory : List ℕ) (at : ℕ)
          → Passed c b causes.PropertyOfManyWords tables before rest memory at is
          → ((v : ℕ) → 248 ≤ v → v ≢ 251 → word_of memory v ≡ word_of old v)
          → SingleTested b tables before rest old is
      go true memory at w others = record { memory = memory; there = at; works = w; others = others }
      go false memory at w others = w

  -- an index is that of a word, or there is the fault
  abbrev pub WordTested : Bool → List PropertyTable → List ℕ → List ℕ → List ℕ → List Instruction → Type 0
  WordTested true tables before rest old is = Kept tables before rest old is
  WordTested false tables before rest old is = FailsWith c causes.IndexOutOfRange before

  -- the bytes of the second test: 4, or 6 where the index takes two
  upper_size : (i : Operand)
      → (offset_over_operand i ≡ 2 + length (bytes_of (branching operations.JumpIfLess (i ∷ Variable 251 ∷ []) true 6)))
      × (length (bytes_of (branching operations.JumpIfLess (i ∷ Variable 251 ∷ []) true 6)) ≤ 6)
  unfolding bytes_of
  upper_size (Large n) = (refl, omega arith)
  upper_size (Small n) = (refl, omega arith)
  upper_size (Variable n) = (refl, omega arith)

  pub word_tests : (tables : List PropertyTable) (before rest old : List ℕ) (there o q v : ℕ) (i : Operand)
      (words : List ℕ)
      (is : List Instruction) → next_place c < length m
      → IsObjectHere c o → world.objects.properties o q ≡ Some words → word_of old 250 ≡ words_at c tables o q
      → ((memory : List ℕ) → Scratch c memory → ((x : ℕ) → 248 ≤ x → x ≢ 251 → word_of memory x ≡ word_of old x)
      → operand_value i (at_words (around c) memory locals rest world.text)
      ≡ done v (at_words (around c) memory locals rest world.text))
      → Works c tables before rest old there (tested_word a i ++ is)
      → WordTested (is_entry (length words) v) tables before rest old is
  unfolding perform
  word_tests tables before rest old there o q v i words is followed known e address value t =
      let divided = giving operations.Div (Variable 251 ∷ Small 2 ∷ []) 251 in
      let lower_test = branching operations.JumpIfLess (i ∷ Small 0 ∷ []) true (offset_over_operand i) in
      let upper_test = branching operations.JumpIfLess (i ∷ Variable 251 ∷ []) true 6 in
      let rest_code = upper_test ∷ (fail (fault_address a causes.IndexOutOfRange) ++ is) in
      let k = counted tables before rest old there o q words (divided ∷ lower_test ∷ rest_code) known e address t in
      let n = length words in
      let few = ((placed_on c tables old t.has).within o q words known e).1 in
      let st = at_words (around c) k.memory locals rest world.text in
      let m1 = with_variable k.memory 251 n in
      let next = writes c tables before rest k.memory k.there 251 n operations.Div (Variable 251 ∷ Small 2 ∷ [])
      (2 * n ∷ 2 ∷ []) (lower_test ∷ rest_code) (omega arith) (omega arith)
      (record { least = omega arith; most = omega arith; result_fits = omega arith; branch_fits = tt })
      (two_operands st st st (Variable 251) (Small 2) (2 * n) 2
      (variable_value (around c) k.memory locals rest world.text 251 (2 * n)
      (reads_word c k.memory 251 (2 * n) (omega arith) (omega arith) k.holds_count)) (small_value st 2))
      (λ after. divides (point k.there world.fuel) after 251 (2 * n) 2 st refl
      ∙ ap (λ (x : ℕ). give_result (point k.there world.fuel) after (Some 251) x st) (halved n few)) k.works in
      let others : (x : ℕ) → 248 ≤ x → x ≢ 251 → word_of m1 x ≡ word_of old x = λ x low differs.
      word_unwritten c k.memory 251 n x k.works.scratch (omega arith) (omega arith) low differs
      ∙ k.others x low differs in
      let size = upper_size i in
      let at = k.there + length (bytes_of divided) in
      let passed = bounds c causes.IndexOutOfRange tables before rest m1 at v 0 n i (Variable 251) is followed
      (omega arith) (omega (arith, few)) (value m1 next.scratch others)
      (variable_value (around c) m1 locals rest world.text 251 n
      (reads_word c m1 251 n (omega arith) (omega arith)
      (word_written c k.memory 251 n k.works.scratch (omega arith) (omega arith)))) size.1
      (subst (λ (x : ℕ). Works c tables before rest m1 at
      (branching operations.JumpIfLess (i ∷ Small 0 ∷ []) true x ∷ rest_code)) size.0 next) in
      let behind = at + length (bytes_of (branching operations.JumpIfLess (i ∷ Small 0 ∷ []) true
      (2 + length (bytes_of upper_test)))) + length (bytes_of upper_test) + 4 in
      go (is_entry n v) m1 behind others
      (subst (λ b. Passed c b causes.IndexOutOfRange tables before rest m1 behind is) (entry_between n v) passed)
    where
      go : (b : Bool) (memory : List ℕ) (there : ℕ)
          → ((x : ℕ) → 248 ≤ x → x ≢ 251 → word_of memory x ≡ word_of old x)
          → Passed c b causes.IndexOutOfRange tables before rest memory there is
          → WordTested b tables before rest old is
      go true memory there others w = record { memory = memory; there = there; works = w; others = others }
      go false memory there others w = w
