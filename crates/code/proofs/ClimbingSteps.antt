-- One round of the loop of a move: from an object up to its parent.
use Rattle.std.proofs.Common.{◌≡◌, ◌≢◌, ℕ, ◌+◌, ◌<◌, ◌≤◌, List, [], ◌∷◌, ◌++◌, length, Some, true, false, refl, ◌∙◌}
use Rattle.std.proofs.Common.{subst, arith}
use Rattle.std.specs.Prelude.{◌==◌, ◌||◌}
use Rattle.std.specs.List.{flat_map}
use Rattle.std.proofs.lemmas.Bool.{eqb-false}
use Rattle.zcore.specs.declared.instruction.Operand.TheVariants.{Large, Variable}
use Rattle.zcore.specs.declared.instruction.Operation.TheVariants as operations
use Rattle.zcore.specs.Instruction.{Instruction}
use Rattle.zcore.specs.InstructionBytes.{bytes_of}
use Rattle.zcore.specs.Parts.{operand_value}
use Rattle.zcore.specs.State.{State, done}
use Rattle.zcore.specs.Execution.{perform}
use Rattle.meaning.specs.declared.cause.Cause.TheVariants as causes
use Rattle.code.specs.Region.{HasObjects}
use Rattle.code.specs.Tables.{PropertyTable}
use Rattle.code_drafts.specs.Addresses.{fault_address}
use Rattle.code_drafts.specs.Instructions.{plain, giving, branching, fail}
use Rattle.code.proofs.Behind.{Holds, holds_append}
use Rattle.code.proofs.Play.{Leads}
use Rattle.code.proofs.Memory.{word_of, with_variable}
use Rattle.code.proofs.Parts.{machine as at_words, global_writes}
use Rattle.code.proofs.Steps.{point, leads_then, one_step, first_held, others_held, one_operand, two_operands}
use Rattle.code.proofs.Steps.{variable_value, gives_variable, landing}
use Rattle.code.proofs.Arriving.{Running, around, here}
use Rattle.code.proofs.Temporaries.{Scratch, scratch_with, word_written, word_unwritten, made}
use Rattle.code.proofs.TestedObjects.{IsObjectHere}
use Rattle.code.proofs.Working.{branch_leads, reads_word, objects_with}
use Rattle.code.proofs.Providing.{acts_on}

module _ (c : Running) where
  open c use {story, a, p, accepted, holds, full, m, count, counts, routine, place, callers, locals, world, good}

  -- the routine with so much fuel
  abbrev pub refuel : ℕ → Running
  refuel fuel = record {
    story = story;
    a = a;
    p = p;
    accepted = accepted;
    holds = holds;
    full = full;
    m = m;
    count = count;
    counts = counts;
    routine = routine;
    place = place;
    callers = callers;
    locals = locals;
    world = record world { fuel = fuel };
    good = record {
      known = good.known;
      locals = good.locals;
      room = omega arith;
      callers = good.callers;
      few = good.few;
      globals = good.globals;
      sizes = good.sizes;
      stored = good.stored;
      put_aside = good.put_aside;
    };
  }

  pub scratch_in : (fuel : ℕ) (memory : List ℕ) → Scratch c memory → Scratch (refuel fuel) memory
  scratch_in fuel memory s = record { ground = s.ground; stored = s.stored; kept = s.kept }

  -- The instructions of the loop, after the one that sets its variable

  abbrev same_test : Instruction
  same_test = branching operations.JumpIfEqual (Variable 251 ∷ Variable 250 ∷ []) true 11

  abbrev parent_of : Instruction
  parent_of = giving operations.GetParent (Variable 251 ∷ []) 251

  abbrev top_test : Instruction
  top_test = branching operations.JumpIfZero (Variable 251 ∷ []) true 9

  abbrev back : Instruction
  back = plain operations.Jump (Large 65525 ∷ [])

  abbrev fault_code : List Instruction
  fault_code = fail (fault_address a causes.ObjectInsideItself)

  abbrev pub turning : List Instruction → List Instruction
  turning is = same_test ∷ parent_of ∷ top_test ∷ back ∷ (fault_code ++ is)

  -- where they stand
  pub record Turns (q : ℕ) (is : List Instruction) : Type 0 where
    pub same : Holds m q (bytes_of same_test)
    pub parent : Holds m (q + 4) (bytes_of parent_of)
    pub top : Holds m (q + 7) (bytes_of top_test)
    pub jump : Holds m (q + 10) (bytes_of back)
    pub fault : Holds m (q + 13) (flat_map bytes_of fault_code)
    pub behind : Holds m (q + 17) (flat_map bytes_of is)
    pub size : length (flat_map bytes_of (turning is)) ≡ 17 + length (flat_map bytes_of is)

  pub turns : (q : ℕ) (is : List Instruction) → Holds m q (flat_map bytes_of (turning is)) → Turns q is
  unfolding bytes_of
  turns q is h =
      let h1 = others_held m q same_test (parent_of ∷ top_test ∷ back ∷ (fault_code ++ is)) h in
      let h2 = others_held m (q + 4) parent_of (top_test ∷ back ∷ (fault_code ++ is)) h1 in
      let e2 : q + 4 + 3 ≡ q + 7 = omega arith in
      let h3 = others_held m (q + 4 + 3) top_test (back ∷ (fault_code ++ is)) h2 in
      let e3 : q + 4 + 3 + 3 ≡ q + 10 = omega arith in
      let h4 = others_held m (q + 4 + 3 + 3) back (fault_code ++ is) h3 in
      let both = holds_append m (q + 4 + 3 + 3 + 3) (flat_map bytes_of fault_code) (flat_map bytes_of is) h4 in
      let e4 : q + 4 + 3 + 3 + 3 ≡ q + 13 = omega arith in
      let e5 : q + 4 + 3 + 3 + 3 + 4 ≡ q + 17 = omega arith in
      record {
        same = first_held m q same_test (parent_of ∷ top_test ∷ back ∷ (fault_code ++ is)) h;
        parent = first_held m (q + 4) parent_of (top_test ∷ back ∷ (fault_code ++ is)) h1;
        top = subst (λ n. Holds m n (bytes_of top_test)) e2
            (first_held m (q + 4 + 3) top_test (back ∷ (fault_code ++ is)) h2);
        jump = subst (λ n. Holds m n (bytes_of back)) e3 (first_held m (q + 4 + 3 + 3) back (fault_code ++ is) h3);
        fault = subst (λ n. Holds m n (flat_map bytes_of fault_code)) e4 both.0;
        behind = subst (λ n. Holds m n (flat_map bytes_of is)) e5 both.1;
        size = omega arith;
      }

  -- One turn of the loop

  module _ (rest : List ℕ) (q o : ℕ) (is : List Instruction) (held : Turns q is) (from : here c ≤ q)
      (within : q + 17 < length m) (tables : List PropertyTable) where
    abbrev state : List ℕ → State
    state memory = at_words (around c) memory locals rest world.text

    -- in memory where the loop's variable names an object
    module _ (memory : List ℕ) (at : ℕ) (scratch : Scratch c memory)
        (has : HasObjects p.objects p.defaults world.objects tables memory)
        (object_there : word_of memory 250 ≡ o) (at_there : word_of memory 251 ≡ at) (known : IsObjectHere c at) where
      abbrev pub up : ℕ
      up = world.objects.tree.parent at

      abbrev pub next : List ℕ
      next = with_variable memory 251 up

      value_at : operand_value (Variable 251) (state memory) ≡ done at (state memory)
      value_at =
          variable_value (around c) memory locals rest world.text 251 at
          (reads_word c memory 251 at (omega arith) (omega arith) at_there)

      value_object : operand_value (Variable 250) (state memory) ≡ done o (state memory)
      value_object =
          variable_value (around c) memory locals rest world.text 250 o
          (reads_word c memory 250 o (omega arith) (omega arith) object_there)

      pub scratch_next : Scratch c next
      scratch_next = scratch_with c memory 251 up scratch (omega arith) (omega arith)

      tests_same : Leads (point q world.fuel) (state memory)
          (point (landing true ((at == o) || false) (q + 4) 9) world.fuel) (state memory)
      unfolding perform bytes_of
      tests_same =
          branch_leads c rest memory q 9 operations.JumpIfEqual (Variable 251 ∷ Variable 250 ∷ []) (at ∷ o ∷ []) true
          ((at == o) || false) scratch from
          (record { least = omega arith; most = omega arith; result_fits = tt; branch_fits = omega arith })
          (two_operands (state memory) (state memory) (state memory) (Variable 251) (Variable 250) at o value_at
          value_object) (λ after. refl) (omega arith) (omega arith) (omega (arith, within)) held.same

      goes_up : Leads (point (q + 4) world.fuel) (state memory) (point (q + 7) world.fuel) (state next)
      unfolding perform bytes_of
      goes_up =
          let e : q + 4 + 3 ≡ q + 7 = omega arith in
          subst (λ n. Leads (point (q + 4) world.fuel) (state memory) (point n world.fuel) (state next)) e
          (one_step (point (q + 4) world.fuel) (point (q + 4 + 3) world.fuel) (state memory) (state next)
          (made c memory rest rest world.text (q + 4) parent_of (at ∷ []) scratch (omega (arith, from))
          (record { least = omega arith; most = omega arith; result_fits = omega arith; branch_fits = tt }) held.parent
          (one_operand (state memory) (state memory) (Variable 251) at value_at)
          ∙ (acts_on c tables memory rest has).parent (point (q + 4) world.fuel) (q + 4 + 3) (Some 251) at known
          ∙ gives_variable (point (q + 4) world.fuel) (q + 4 + 3) 251 up (around c) memory locals rest world.text next
          locals (global_writes (around c) memory locals 251 up (omega arith) (omega arith))))

      tests_top : Leads (point (q + 7) world.fuel) (state next)
          (point (landing true (up == 0) (q + 10) 7) world.fuel) (state next)
      unfolding perform bytes_of
      tests_top =
          let e : q + 7 + 3 ≡ q + 10 = omega arith in
          subst (λ n. Leads (point (q + 7) world.fuel) (state next) (point (landing true (up == 0) n 7) world.fuel)
          (state next)) e
          (branch_leads c rest next (q + 7) 7 operations.JumpIfZero (Variable 251 ∷ []) (up ∷ []) true (up == 0)
          scratch_next (omega (arith, from))
          (record { least = omega arith; most = omega arith; result_fits = tt; branch_fits = omega arith })
          (one_operand (state next) (state next) (Variable 251) up
          (variable_value (around c) next locals rest world.text 251 up
          (reads_word c next 251 up (omega arith) (omega arith)
          (word_written c memory 251 up scratch (omega arith) (omega arith)))))
          (λ after. refl) (omega arith) (omega arith) (omega (arith, within)) held.top)

      -- the object itself
      pub meets : (at == o) ≡ true
          → Leads (point q world.fuel) (state memory) (point (q + 13) world.fuel) (state memory)
      meets e =
          let f : ((at == o) || false) ≡ true = rw e refl in
          let n : q + 4 + 9 ≡ q + 13 = omega arith in
          subst (λ k. Leads (point q world.fuel) (state memory) (point k world.fuel) (state memory)) n
          (subst (λ b. Leads (point q world.fuel) (state memory)
          (point (landing true b (q + 4) 9) world.fuel) (state memory)) f tests_same)

      -- another: its parent is read
      rises : (at == o) ≡ false
          → Leads (point q world.fuel) (state memory)
          (point (landing true (up == 0) (q + 10) 7) world.fuel) (state next)
      rises e =
          let f : ((at == o) || false) ≡ false = rw e refl in
          leads_then (point q world.fuel) (point (q + 4) world.fuel)
          (point (landing true (up == 0) (q + 10) 7) world.fuel) (state memory) (state memory) (state next)
          (subst (λ b. Leads (point q world.fuel) (state memory)
          (point (landing true b (q + 4) 9) world.fuel) (state memory)) f tests_same)
          (leads_then (point (q + 4) world.fuel) (point (q + 7) world.fuel)
          (point (landing true (up == 0) (q + 10) 7) world.fuel) (state memory) (state next) (state next) goes_up
          tests_top)

      pub ends_up : (at == o) ≡ false → (up == 0) ≡ true
          → Leads (point q world.fuel) (state memory) (point (q + 17) world.fuel) (state next)
      ends_up e f =
          let n : q + 10 + 7 ≡ q + 17 = omega arith in
          subst (λ k. Leads (point q world.fuel) (state memory) (point k world.fuel) (state next)) n
          (subst (λ b. Leads (point q world.fuel) (state memory)
          (point (landing true b (q + 10) 7) world.fuel) (state next)) f (rises e))

      pub goes_on : (at == o) ≡ false → (up == 0) ≡ false
          → Leads (point q world.fuel) (state memory) (point (q + 10) world.fuel) (state next)
      goes_on e f =
          subst (λ b. Leads (point q world.fuel) (state memory)
          (point (landing true b (q + 10) 7) world.fuel) (state next)) f (rises e)

      -- the parent is an object too
      pub parent_known : (up == 0) ≡ false → IsObjectHere c up
      parent_known f =
          let some : up ≡ 0 → ⊥ = eqb-false up 0 f in
          (has.forest.parents up at (has.forest.stand at some)).1

      pub next_has : HasObjects p.objects p.defaults world.objects tables next
      next_has = objects_with c tables memory 251 up scratch (omega arith) (omega arith) has

      pub next_object : word_of next 250 ≡ o
      next_object =
          word_unwritten c memory 251 up 250 scratch (omega arith) (omega arith) (omega arith) (λ f. omega (arith, f))
          ∙ object_there

      pub next_at : word_of next 251 ≡ up
      next_at = word_written c memory 251 up scratch (omega arith) (omega arith)

      pub next_others : (x : ℕ) → 248 ≤ x → x ≢ 251 → word_of next x ≡ word_of memory x
      next_others x low differs = word_unwritten c memory 251 up x scratch (omega arith) (omega arith) low differs
