-- The two tests of a word that must lie between two numbers let through what lies there, and else lead to a fault.
use Rattle.std.proofs.Common.{◌≡◌, ℕ, ◌+◌, ◌<◌, ◌≤◌, ◌⊎◌, inl, inr, List, [], ◌∷◌, ◌++◌, length, Bool, true, false}
use Rattle.std.proofs.Common.{refl, ◌∙◌, subst, arith}
use Rattle.std.specs.Prelude.{nat_lt, nat_le, if◌then◌else◌, not, ◌&&◌}
use Rattle.std.specs.List.{flat_map}
use Rattle.std.proofs.lemmas.Bool.{cases_lt, lt-ltb, le-ltb, le-leb, lt-leb}
use Rattle.zcore.specs.declared.instruction.Operand.{Operand}
use Rattle.zcore.specs.declared.instruction.Operand.TheVariants.{Large, Small, Variable}
use Rattle.zcore.specs.declared.instruction.Operation.TheVariants as operations
use Rattle.zcore.specs.Arithmetic.{signed_less}
use Rattle.zcore.specs.Instruction.{Instruction}
use Rattle.zcore.specs.InstructionBytes.{bytes_of}
use Rattle.zcore.specs.State.{State, done}
use Rattle.zcore.specs.Parts.{operand_value}
use Rattle.zcore.specs.Execution.{perform}
use Rattle.meaning.specs.declared.cause.Cause.{Cause}
use Rattle.meaning.specs.declared.cause.Cause.TheVariants as causes
use Rattle.code_drafts.specs.Addresses.{fault_address}
use Rattle.code_drafts.specs.Instructions.{branching, fail, aside_variable}
use Rattle.code_instructions.specs.Instructions.{tested_between, is_between}
use Rattle.code.specs.ItemCode.{is_entry}
use Rattle.code.proofs.Behind.{Holds, holds_append}
use Rattle.code.proofs.Play.{Leads}
use Rattle.code.proofs.Memory.{word_of, with_variable}
use Rattle.code.proofs.Parts.{machine as at_words, global_reads, ReadsVariable}
use Rattle.code.proofs.Steps.{point, leads_then, one_step, first_held, others_held, two_operands, small_value}
use Rattle.code.proofs.Steps.{large_value, variable_value, landing}
use Rattle.code.proofs.SingleSteps.{branch_step}
use Rattle.code.proofs.Fitting.{Shaped, held_bytes, encodable}
use Rattle.code.proofs.Arriving.{Running, around, here, high, above, kept}
use Rattle.code.proofs.Temporaries.{Scratch, word_written, held_in}
use Rattle.code.proofs.Alone.{next_place}

-- which numbers the two tests let through
ordered : (low i : ℕ) → (i < low) ⊎ (low ≤ i) → nat_le low i ≡ not (nat_lt i low)
ordered low i (inl h) =
    let e : nat_le low i ≡ false = lt-leb low i h in
    let f : nat_lt i low ≡ true = lt-ltb i low h in
    rw (e, f) refl
ordered low i (inr h) =
    let e : nat_le low i ≡ true = le-leb low i h in
    let f : nat_lt i low ≡ false = le-ltb i low h in
    rw (e, f) refl

by_order : (low end i : ℕ) → low < 32768 → end < 32768 → (i < 32768) ⊎ (32768 ≤ i)
    → is_between low end i ≡ (not (signed_less i low) && signed_less i end)
by_order low end i small few (inl h) =
    let e : nat_lt i 32768 ≡ true = lt-ltb i 32768 h in
    let f : nat_le 32768 i ≡ false = lt-leb 32768 i h in
    let g : nat_le low i ≡ not (nat_lt i low) = ordered low i (cases_lt i low) in
    let k : nat_le 32768 low ≡ false = lt-leb 32768 low small in
    let l : nat_le 32768 end ≡ false = lt-leb 32768 end few in
    rw (e, f, g, k, l) refl
by_order low end i small few (inr h) =
    let e : nat_lt i 32768 ≡ false = le-ltb i 32768 h in
    let f : nat_le 32768 i ≡ true = le-leb 32768 i h in
    let k : nat_le 32768 low ≡ false = lt-leb 32768 low small in
    rw (e, f, k) refl

pub between_tests : (low end i : ℕ) → low < 32768 → end < 32768
    → is_between low end i ≡ (not (signed_less i low) && signed_less i end)
between_tests low end i small few = by_order low end i small few (cases_lt i 32768)

-- an index is a number from 0 on
pub entry_between : (count i : ℕ) → is_between 0 count i ≡ is_entry count i
entry_between count i =
    let e : nat_le 0 i ≡ true = le-leb 0 i (omega arith) in
    rw e refl

module _ (c : Running) where
  open c use {story, a, p, accepted, holds, full, m, count, counts, routine, place, callers, locals, world, good}

  -- the machine comes to these instructions, with this of the stack; of the compiler's variables the first alone may
  -- differ from another memory's
  pub record Reached (before rest other : List ℕ) (is : List Instruction) : Type 0 where
    pub memory : List ℕ
    pub scratch : Scratch c memory
    pub q : ℕ
    pub from : here c ≤ q
    pub held : Holds m q (flat_map bytes_of is)
    pub leads : Leads (point (here c) world.fuel) (at_words (around c) m locals before world.text)
        (point q world.fuel) (at_words (around c) memory locals rest world.text)
    pub unwritten : (v : ℕ) → 249 ≤ v → v < 256 → word_of memory v ≡ word_of other v

  -- the machine comes to what is done at an index
  pub record AtIndex (i : ℕ) (before rest other : List ℕ) (act : Operand → List Instruction) : Type 0 where
    pub operand : Operand
    pub reached : Reached before rest other (act operand)
    pub end : reached.q + length (flat_map bytes_of (act operand)) ≡ next_place c
    pub value : operand_value operand (at_words (around c) reached.memory locals rest world.text)
        ≡ done i (at_words (around c) reached.memory locals rest world.text)
    -- and it is the same word where other variables of the compiler differ than the first, and that of a word put aside
    pub stays : (memory words : List ℕ) → Scratch c memory → word_of memory 248 ≡ word_of reached.memory 248
        → word_of memory aside_variable ≡ word_of reached.memory aside_variable
        → operand_value operand (at_words (around c) memory locals words world.text)
        ≡ done i (at_words (around c) memory locals words world.text)

  -- two tests of 4 and as many bytes as the fault is away
  tests_lead : (below within : Bool) (st : State) (q away : ℕ)
      → Leads (point q world.fuel) st (point (landing true below (q + 4) away) world.fuel) st
      → Leads (point (q + 4) world.fuel) st (point (landing true within (q + 4 + away) 4) world.fuel) st
      → Leads (point q world.fuel) st
      (point (if not below && within then q + 4 + away + 4 else q + 4 + away) world.fuel) st
  tests_lead true within st q away e f = e
  tests_lead false true st q away e f =
      leads_then (point q world.fuel) (point (q + 4) world.fuel) (point (q + 4 + away + 4) world.fuel) st st st e f
  tests_lead false false st q away e f =
      leads_then (point q world.fuel) (point (q + 4) world.fuel) (point (q + 4 + away) world.fuel) st st st e f

  -- what was written to the first of the compiler's variables, where others differ
  pub reads_still : (other : List ℕ) (v : ℕ) → Scratch c other → (memory : List ℕ) → Scratch c memory
      → word_of memory 248 ≡ word_of (with_variable other 248 v) 248
      → word_of memory aside_variable ≡ word_of (with_variable other 248 v) aside_variable
      → ReadsVariable (around c) memory locals 248 v
  reads_still other v scratch memory still same same_aside =
      subst (λ x. ReadsVariable (around c) memory locals 248 x)
      (same ∙ word_written c other 248 v scratch (omega arith) (omega arith))
      (global_reads (around c) memory locals 248 (omega arith) (omega arith))

  -- what is done with a word that is between two numbers, and else a fault
  abbrev pub Tested : Cause → Bool → ℕ → List ℕ → List ℕ → List ℕ → (Operand → List Instruction) → Type 0
  Tested cause true i before rest other act = AtIndex i before rest other act
  Tested cause false i before rest other act = Reached before rest other (fail (fault_address a cause))

  -- what is done at an index that is one, and else the fault
  abbrev pub Indexed : Bool → ℕ → List ℕ → List ℕ → List ℕ → (Operand → List Instruction) → Type 0
  Indexed b i before rest other act = Tested causes.IndexOutOfRange b i before rest other act

  -- a word in a variable
  module _ (cause : Cause) (low variable i number : ℕ) (act : Operand → List Instruction)
      (before rest other : List ℕ)
      (r : Reached before rest other (tested_between a cause low number variable ++ act (Variable variable)))
      (reads : ReadsVariable (around c) r.memory locals variable i)
      (still : (memory : List ℕ) → Scratch c memory → word_of memory 248 ≡ word_of r.memory 248
      → word_of memory aside_variable ≡ word_of r.memory aside_variable
      → ReadsVariable (around c) memory locals variable i)
      (end : r.q + length (flat_map bytes_of (tested_between a cause low number variable ++ act (Variable variable)))
      ≡ next_place c) (followed : next_place c < length m) where
    abbrev fault_code : List Instruction
    fault_code = fail (fault_address a cause)

    abbrev is_in : Bool
    is_in = not (signed_less i low) && signed_less i number

    abbrev st : State
    st = at_words (around c) r.memory locals rest world.text

    abbrev test : Operand → ℕ → Instruction
    test o d = branching operations.JumpIfLess (Variable variable ∷ o ∷ []) true (2 + d)

    -- the tests and the fault, by whether the number of entries is a small constant
    abbrev form : Bool → List Instruction
    form small =
        branching operations.JumpIfLess (Variable variable ∷ Small low ∷ []) true (if small then 6 else 8)
        ∷ branching operations.JumpIfLess (Variable variable ∷ (if small then Small number else Large number) ∷ [])
        true 6
        ∷ fault_code

    one_test : (o : Operand) (n d there : ℕ) → operand_value o st ≡ done n st → d < 8190 → r.q ≤ there
        → 0 < length (bytes_of (test o d)) → there + length (bytes_of (test o d)) + d < length m
        → Holds m there (bytes_of (test o d))
        → Leads (point there world.fuel) st
        (point (landing true (signed_less i n) (there + length (bytes_of (test o d))) d) world.fuel) st
    unfolding perform
    one_test o n d there value near behind some within held =
        let k = test o d in
        let shaped : Shaped k =
        record { least = omega arith; most = omega arith; result_fits = tt; branch_fits = omega (arith, near) } in
        one_step (point there world.fuel)
        (point (landing true (signed_less i n) (there + length (bytes_of k)) d) world.fuel) st st
        (branch_step (around c) world.fuel r.memory locals rest rest world.text there d operations.JumpIfLess
        (Variable variable ∷ o ∷ []) (i ∷ n ∷ []) true (signed_less i n)
        (encodable k shaped (held_bytes _ there story m (bytes_of k) holds.byte_each (kept c)
        (omega (arith, high c, r.from, behind)) held))
        (two_operands st st st (Variable variable) o i n
        (variable_value (around c) r.memory locals rest world.text variable i reads) value)
        (λ here after u. refl) near (omega (arith, above c, r.from, behind)) some
        (omega (arith, within, good.stored.size, r.scratch.stored.size))
        (held_in c r.memory (bytes_of k) there r.scratch (omega (arith, r.from, behind)) held))

    -- the bytes of the tests, one after another
    record Parts (small : Bool) (away : ℕ) : Type 0 where
      tests : Leads (point r.q world.fuel) st
          (point (if is_in then r.q + 4 + away + 4 else r.q + 4 + away)
          world.fuel) st
      fault : Holds m (r.q + 4 + away) (flat_map bytes_of fault_code)
      behind : Holds m (r.q + 4 + away + 4) (flat_map bytes_of (act (Variable variable)))
      size : length (flat_map bytes_of (form small ++ act (Variable variable)))
          ≡ 4 + away + 4 + length (flat_map bytes_of (act (Variable variable)))

    small_tested : Holds m r.q (flat_map bytes_of (form true ++ act (Variable variable)))
        → r.q + length (flat_map bytes_of (form true ++ act (Variable variable))) ≡ next_place c → Parts true 4
    unfolding bytes_of
    small_tested h size =
        let lower = test (Small low) 4 in
        let upper = test (Small number) 4 in
        let rest_code = act (Variable variable) in
        let h1 = others_held m r.q lower (upper ∷ (fault_code ++ rest_code)) h in
        let h2 = others_held m (r.q + 4) upper (fault_code ++ rest_code) h1 in
        let both = holds_append m (r.q + 4 + 4) (flat_map bytes_of fault_code) (flat_map bytes_of rest_code) h2 in
        record {
          tests = tests_lead (signed_less i low) (signed_less i number) st r.q 4
              (one_test (Small low) low 4 r.q (small_value st low) (omega arith) (omega arith) (omega arith)
              (omega (arith, size, followed)) (first_held m r.q lower (upper ∷ (fault_code ++ rest_code)) h))
              (one_test (Small number) number 4 (r.q + 4) (small_value st number) (omega arith) (omega arith)
              (omega arith) (omega (arith, size, followed))
              (first_held m (r.q + 4) upper (fault_code ++ rest_code) h1));
          fault = both.0;
          behind = both.1;
          size = omega arith;
        }

    large_tested : Holds m r.q (flat_map bytes_of (form false ++ act (Variable variable)))
        → r.q + length (flat_map bytes_of (form false ++ act (Variable variable))) ≡ next_place c → Parts false 6
    unfolding bytes_of
    large_tested h size =
        let lower = test (Small low) 6 in
        let upper = test (Large number) 4 in
        let rest_code = act (Variable variable) in
        let h1 = others_held m r.q lower (upper ∷ (fault_code ++ rest_code)) h in
        let h2 = others_held m (r.q + 4) upper (fault_code ++ rest_code) h1 in
        let both = holds_append m (r.q + 4 + 6) (flat_map bytes_of fault_code) (flat_map bytes_of rest_code) h2 in
        record {
          tests = tests_lead (signed_less i low) (signed_less i number) st r.q 6
              (one_test (Small low) low 6 r.q (small_value st low) (omega arith) (omega arith) (omega arith)
              (omega (arith, size, followed)) (first_held m r.q lower (upper ∷ (fault_code ++ rest_code)) h))
              (one_test (Large number) number 4 (r.q + 4) (large_value st number) (omega arith) (omega arith)
              (omega arith) (omega (arith, size, followed))
              (first_held m (r.q + 4) upper (fault_code ++ rest_code) h1));
          fault = both.0;
          behind = both.1;
          size = omega arith;
        }

    -- where the tests lead to
    tested_by : (small : Bool) (away : ℕ) → Parts small away
        → r.q + length (flat_map bytes_of (form small ++ act (Variable variable))) ≡ next_place c
        → (b : Bool) → is_in ≡ b → Tested cause b i before rest other act
    tested_by small away t size true e = record {
      operand = Variable variable;
      reached = record {
        memory = r.memory;
        scratch = r.scratch;
        q = r.q + 4 + away + 4;
        from = omega (arith, r.from);
        held = t.behind;
        leads = leads_then (point (here c) world.fuel) (point r.q world.fuel)
            (point (r.q + 4 + away + 4) world.fuel) (at_words (around c) m locals before world.text) st st r.leads
            (subst (λ b. Leads (point r.q world.fuel) st
            (point (if b then r.q + 4 + away + 4 else r.q + 4 + away) world.fuel) st) e t.tests);
        unwritten = r.unwritten;
      };
      end = omega (arith, size, t.size);
      value = variable_value (around c) r.memory locals rest world.text variable i reads;
      stays = λ memory words scratch same same_aside.
          variable_value (around c) memory locals words world.text variable i (still memory scratch same same_aside);
    }
    tested_by small away t size false e = record {
      memory = r.memory;
      scratch = r.scratch;
      q = r.q + 4 + away;
      from = omega (arith, r.from);
      held = t.fault;
      leads = leads_then (point (here c) world.fuel) (point r.q world.fuel) (point (r.q + 4 + away) world.fuel)
          (at_words (around c) m locals before world.text) st st r.leads
          (subst (λ b. Leads (point r.q world.fuel) st
          (point (if b then r.q + 4 + away + 4 else r.q + 4 + away) world.fuel) st) e t.tests);
      unwritten = r.unwritten;
    }

    pub tested : Tested cause is_in i before rest other act
    tested = go (nat_lt number 256) r.held end is_in refl
      where
        go : (small : Bool) → Holds m r.q (flat_map bytes_of (form small ++ act (Variable variable)))
            → r.q + length (flat_map bytes_of (form small ++ act (Variable variable))) ≡ next_place c
            → (b : Bool) → is_in ≡ b → Tested cause b i before rest other act
        go true h size b e = tested_by true 4 (small_tested h size) size b e
        go false h size b e = tested_by false 6 (large_tested h size) size b e
