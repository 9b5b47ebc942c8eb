-- A word is tested between two numbers within an item, and a fault stands after the tests.
use Rattle.std.proofs.Common.{◌≡◌, ℕ, ◌+◌, ◌<◌, ◌≤◌, List, [], ◌∷◌, ◌++◌, length, Bool, true, false, refl, sym}
use Rattle.std.proofs.Common.{length-append, subst, arith}
use Rattle.std.specs.Prelude.{nat_lt, ◌&&◌, not, if◌then◌else◌}
use Rattle.std.specs.List.{flat_map}
use Rattle.zcore.specs.declared.instruction.Operand.{Operand}
use Rattle.zcore.specs.declared.instruction.Operand.TheVariants.{Large, Small, Variable}
use Rattle.zcore.specs.declared.instruction.Operation.TheVariants as operations
use Rattle.zcore.specs.Arithmetic.{signed_less}
use Rattle.zcore.specs.Instruction.{Instruction}
use Rattle.zcore.specs.InstructionBytes.{bytes_of}
use Rattle.zcore.specs.Parts.{operand_value}
use Rattle.zcore.specs.State.{State, done}
use Rattle.zcore.specs.Execution.{perform}
use Rattle.meaning.specs.declared.cause.Cause.{Cause}
use Rattle.code_drafts.specs.Items as items
use Rattle.code.specs.Tables.{PropertyTable}
use Rattle.code_drafts.specs.Addresses.{fault_address}
use Rattle.code_drafts.specs.Instructions.{branching, fail, constant, word_in, number_of}
use Rattle.code_instructions.specs.Instructions.{is_between, tested_between}
use Rattle.code_instructions.specs.ObjectCode.{tested_in}
use Rattle.code.proofs.Behind.{Holds, holds_append}
use Rattle.code.proofs.Play.{Leads}
use Rattle.code.proofs.Parts.{machine as at_words}
use Rattle.code.proofs.Steps.{point, leads_then, first_held, others_held, two_operands, small_value, landing}
use Rattle.code.proofs.ItemOperands.{constant_value}
use Rattle.code.proofs.Arriving.{Running, around, here}
use Rattle.code.proofs.Alone.{IsOperandHere, next_place}
use Rattle.code.proofs.Tests.{branching_some}
use Rattle.code.proofs.TestedWords.{between_tests}
use Rattle.code.proofs.Working.{Works, HoldsWord, word_value, branch_leads, FailsWith}
use Rattle.code.proofs.FaultTests.{Passed}

module _ (c : Running) where
  open c use {story, a, p, accepted, holds, full, m, count, counts, routine, place, callers, locals, world, good}

  both_lead : (below inside : Bool) (st : State) (q long away : ℕ)
      → Leads (point q world.fuel) st (point (landing true below (q + long) away) world.fuel) st
      → Leads (point (q + long) world.fuel) st (point (landing true inside (q + long + away) 4) world.fuel) st
      → Leads (point q world.fuel) st
      (point (if not below && inside then q + long + away + 4 else q + long + away) world.fuel) st
  both_lead true inside st q long away e f = e
  both_lead false true st q long away e f =
      leads_then (point q world.fuel) (point (q + long) world.fuel) (point (q + long + away + 4) world.fuel) st st st
      e f
  both_lead false false st q long away e f =
      leads_then (point q world.fuel) (point (q + long) world.fuel) (point (q + long + away) world.fuel) st st st e f

  -- the two tests, and the fault after them
  module _ (cause : Cause) (tables : List PropertyTable) (before rest old : List ℕ) (q v low end : ℕ) (i u : Operand)
      (is : List Instruction) (followed : next_place c < length m) (least : low < 32768) (small : end < 32768)
      (value : operand_value i (at_words (around c) old locals rest world.text)
      ≡ done v (at_words (around c) old locals rest world.text))
      (bound : operand_value u (at_words (around c) old locals rest world.text)
      ≡ done end (at_words (around c) old locals rest world.text)) where
    abbrev upper : Instruction
    upper = branching operations.JumpIfLess (i ∷ u ∷ []) true 6

    abbrev lower : ℕ → Instruction
    lower offset = branching operations.JumpIfLess (i ∷ Small low ∷ []) true offset

    abbrev fault_code : List Instruction
    fault_code = fail (fault_address a cause)

    abbrev st : State
    st = at_words (around c) old locals rest world.text

    abbrev away : ℕ
    away = length (bytes_of upper)

    abbrev long : ℕ
    long = length (bytes_of (lower (2 + away)))

    -- where they lead to
    pub bounds : away ≤ 6 → Works c tables before rest old q (lower (2 + away) ∷ upper ∷ (fault_code ++ is))
        → Passed c (is_between low end v) cause tables before rest old (q + long + away + 4) is
    unfolding perform bytes_of
    bounds near t =
        subst (λ b. Passed c b cause tables before rest old (q + long + away + 4) is)
        (sym (between_tests low end v least small))
        (go (not (signed_less v low) && signed_less v end) leads)
      where
        h1 : Holds m (q + long) (flat_map bytes_of (upper ∷ (fault_code ++ is)))
        h1 = others_held m q (lower (2 + away)) (upper ∷ (fault_code ++ is)) t.held

        h2 : Holds m (q + long + away) (flat_map bytes_of (fault_code ++ is))
        h2 = others_held m (q + long) upper (fault_code ++ is) h1

        both : Holds m (q + long + away) (flat_map bytes_of fault_code)
            × Holds m (q + long + away + 4) (flat_map bytes_of is)
        both = holds_append m (q + long + away) (flat_map bytes_of fault_code) (flat_map bytes_of is) h2

        size : q + long + away + 4 + length (flat_map bytes_of is) ≡ next_place c
        size = omega (
          arith,
          t.end,
          length-append (bytes_of (lower (2 + away))) (flat_map bytes_of (upper ∷ (fault_code ++ is))),
          length-append (bytes_of upper) (flat_map bytes_of (fault_code ++ is)),
        )

        leads : Leads (point q world.fuel) st
            (point (if not (signed_less v low) && signed_less v end then q + long + away + 4 else q + long + away)
            world.fuel) st
        leads =
            both_lead (signed_less v low) (signed_less v end) st q long away
            (branch_leads c rest old q away operations.JumpIfLess (i ∷ Small low ∷ []) (v ∷ low ∷ []) true
            (signed_less v low) t.scratch t.from
            (record { least = omega arith; most = omega arith; result_fits = tt; branch_fits = omega (arith, near) })
            (two_operands st st st i (Small low) v low value (small_value st low)) (λ after. refl)
            (omega (arith, near))
            (branching_some operations.JumpIfLess (i ∷ Small low ∷ []) true (2 + away))
            (omega (arith, size, followed))
            (first_held m q (lower (2 + away)) (upper ∷ (fault_code ++ is)) t.held))
            (branch_leads c rest old (q + long) 4 operations.JumpIfLess (i ∷ u ∷ []) (v ∷ end ∷ []) true
            (signed_less v end) t.scratch (omega (arith, t.from))
            (record { least = omega arith; most = omega arith; result_fits = tt; branch_fits = omega arith })
            (two_operands st st st i u v end value bound) (λ after. refl) (omega arith)
            (branching_some operations.JumpIfLess (i ∷ u ∷ []) true 6) (omega (arith, size, followed))
            (first_held m (q + long) upper (fault_code ++ is) h1))

        go : (b : Bool) → Leads (point q world.fuel) st
            (point (if b then q + long + away + 4 else q + long + away) world.fuel) st
            → Passed c b cause tables before rest old (q + long + away + 4) is
        go true l = record {
          scratch = t.scratch;
          has = t.has;
          from = omega (arith, t.from);
          held = both.1;
          end = size;
          leads = leads_then (point (here c) world.fuel) (point q world.fuel) (point (q + long + away + 4) world.fuel)
              (at_words (around c) m locals before world.text) st st t.leads l;
        }
        go false l = record {
          rest = rest;
          memory = old;
          q = q + long + away;
          scratch = t.scratch;
          from = omega (arith, t.from);
          held = both.0;
          leads = leads_then (point (here c) world.fuel) (point q world.fuel) (point (q + long + away) world.fuel)
              (at_words (around c) m locals before world.text) st st t.leads l;
        }

  -- An operand that is tested where it is

  pub record Bounds (tables : List PropertyTable) (before rest old : List ℕ) (is : List Instruction) : Type 0 where
    pub there : ℕ
    pub works : Works c tables before rest old there is

  abbrev pub Bounded : Bool → Cause → List PropertyTable → List ℕ → List ℕ → List ℕ → List Instruction → Type 0
  Bounded true cause tables before rest old is = Bounds tables before rest old is
  Bounded false cause tables before rest old is = FailsWith c cause before

  -- a constant takes one byte or two
  abbrev compared : Operand → Operand → List ℕ
  compared i u = bytes_of (branching operations.JumpIfLess (i ∷ u ∷ []) true 6)

  constant_size : (i : Operand) (small : Bool) (end : ℕ) → length (compared i (Small 0)) ≡ 4
      → ((if small then 6 else 8) ≡ 2 + length (compared i (if small then Small end else Large end)))
      × (length (compared i (if small then Small end else Large end)) ≤ 6)
  unfolding bytes_of
  constant_size (Large n) true end e = absurd (omega (arith, e))
  constant_size (Large n) false end e = absurd (omega (arith, e))
  constant_size (Small n) true end e = (refl, omega arith)
  constant_size (Small n) false end e = (refl, omega arith)
  constant_size (Variable n) true end e = (refl, omega arith)
  constant_size (Variable n) false end e = (refl, omega arith)

  variable_bounds : (cause : Cause) (tables : List PropertyTable) (before rest old : List ℕ) (q v low end variable : ℕ)
      (is : List Instruction) → next_place c < length m → low < 32768 → end < 32768
      → operand_value (Variable variable) (at_words (around c) old locals rest world.text)
      ≡ done v (at_words (around c) old locals rest world.text)
      → Works c tables before rest old q (tested_between a cause low end variable ++ is)
      → Bounded (is_between low end v) cause tables before rest old is
  unfolding bytes_of
  variable_bounds cause tables before rest old q v low end variable is followed least small value t =
      let size = constant_size (Variable variable) (nat_lt end 256) end refl in
      let upper_test = branching operations.JumpIfLess (Variable variable ∷ constant end ∷ []) true 6 in
      let rest_code = upper_test ∷ (fail (fault_address a cause) ++ is) in
      let passed = bounds cause tables before rest old q v low end (Variable variable) (constant end) is followed least
      small value (constant_value (at_words (around c) old locals rest world.text) end) size.1
      (subst (λ (x : ℕ). Works c tables before rest old q
      (branching operations.JumpIfLess (Variable variable ∷ Small low ∷ []) true x ∷ rest_code)) size.0 t) in
      go (is_between low end v)
      (q + length (bytes_of (branching operations.JumpIfLess (Variable variable ∷ Small low ∷ []) true
      (2 + length (bytes_of upper_test)))) + length (bytes_of upper_test) + 4) passed
    where
      go : (b : Bool) (there : ℕ) → Passed c b cause tables before rest old there is
          → Bounded b cause tables before rest old is
      go true there w = record { there = there; works = w }
      go false there w = w

  pub operand_bounds : (n : ℕ) (cause : Cause) (tables : List PropertyTable) (before rest old : List ℕ)
      (q v low end : ℕ)
      (o : items.Operand) (act : Operand → List Instruction) → n < 8 → next_place c < length m → low < 32768
      → end < 32768 → IsOperandHere c o → HoldsWord c n o v old
      → Works c tables before rest old q (tested_in n a cause low end o act)
      → Bounded (is_between low end v) cause tables before rest old (act (word_in n o))
  operand_bounds n cause tables before rest old q v low end items.pushed act few followed least small is word t =
      variable_bounds cause tables before rest old q v low end (248 + n) (act (Variable (248 + n))) followed least small
      (word_value c n items.pushed v old rest few t.scratch is word) t
  operand_bounds n cause tables before rest old q v low end (items.number k) act few followed least small is word t =
      subst (λ (x : ℕ). Bounded (is_between low end x) cause tables before rest old (act (constant k))) word
      (go (is_between low end k) t)
    where
      go : (b : Bool) → Works c tables before rest old q (if b then act (constant k) else fail (fault_address a cause))
          → Bounded b cause tables before rest old (act (constant k))
      go true w = record { there = q; works = w }
      go false w = record {
        rest = rest;
        memory = old;
        q = q;
        scratch = w.scratch;
        from = w.from;
        held = w.held;
        leads = w.leads;
      }
  operand_bounds n cause tables before rest old q v low end (items.variable x) act few followed least small is word t =
      variable_bounds cause tables before rest old q v low end (number_of x) (act (Variable (number_of x))) followed
      least small (word_value c n (items.variable x) v old rest few t.scratch is word) t
