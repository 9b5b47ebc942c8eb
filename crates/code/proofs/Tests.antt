-- What a branch tests, and the instruction that tests it.
use Rattle.std.proofs.Common.{◌≡◌, ℕ, ◌%◌, ◌<◌, ◌≤◌, List, [], ◌∷◌, length, Some, None, Bool, true, false, refl, ap}
use Rattle.std.proofs.Common.{sym, arith}
use Rattle.std.specs.Prelude.{◌==◌, ◌||◌, nat_lt, nat_le, if◌then◌else◌, not}
use Rattle.std.specs.List.{All, flat_map}
use Rattle.std.proofs.lemmas.Bool.{le-ltb, leb-true, eq-eqb, ne_eqb, eqb-true, eqb-false}
use Rattle.std.proofs.lemmas.List.Elements.{All-nil, All-cons}
use Rattle.zcore.specs.declared.instruction.Operand.{Operand}
use Rattle.zcore.specs.declared.instruction.Operand.TheVariants.{Large}
use Rattle.zcore.specs.declared.instruction.Operation.{Operation}
use Rattle.zcore.specs.declared.instruction.Operation.TheVariants as operations
use Rattle.zcore.specs.declared.next.Next.{Next}
use Rattle.zcore.specs.Operations.{least_operands, most_operands, has_result, has_branch}
use Rattle.zcore.specs.InstructionBytes.{bytes_of, FitsOperand, FitsResult, FitsBranch}
use Rattle.zcore.specs.State.{State}
use Rattle.zcore.specs.Parts.{branch_on}
use Rattle.zcore.specs.Execution.{perform}
use Rattle.zcore.specs.Arithmetic.{signed_less}
use Rattle.meaning.specs.Resolved.{ProgramOf}
use Rattle.meaning.specs.World.{Situation}
use Rattle.code_drafts.specs.Items.{Test}
use Rattle.code_drafts.specs.Items as items
use Rattle.code_items.specs.Laws.{IsOperand, IsTestedValue}
use Rattle.code_items.specs.Stack as stack
use Rattle.code_drafts.specs.Instructions.{plain, branching}
use Rattle.code_instructions.specs.Instructions.{labelled_below, test_operation, reverse_test, tested_below, least_word}
use Rattle.code_instructions.specs.Instructions.{branch_below}
use Rattle.code.proofs.Fitting.{AreBytes, first_part, all_fit}
use Rattle.code.proofs.ItemOperands.{gives_length, GivesOperands}
use Rattle.code.proofs.BranchLengths.{branching_length}

-- the operands of a branch with a label
pub labelled_fit : (limit : ℕ) (op : Operation) (os : List Operand) (when : Bool) (offset : ℕ)
    → AreBytes (flat_map bytes_of (labelled_below limit op os when offset)) → All FitsOperand os
labelled_fit limit op os when offset h = go (nat_lt offset limit) h
  where
    go : (b : Bool) → AreBytes (flat_map bytes_of (if b then branching op os when offset ∷ []
        else branching op os (not when) 5 ∷ plain operations.Jump (Large (offset % 65536) ∷ []) ∷ []))
        → All FitsOperand os
    go true h = all_fit (branching op os when offset) (first_part (bytes_of (branching op os when offset)) [] h)
    go false h = all_fit (branching op os (not when) 5)
        (first_part (bytes_of (branching op os (not when) 5))
        (flat_map bytes_of (plain operations.Jump (Large (offset % 65536) ∷ []) ∷ [])) h)

some_byte : (b : Bool) → 1 ≤ (if b then 1 else 2)
some_byte true = omega arith
some_byte false = omega arith

pub branching_some : (op : Operation) (os : List Operand) (when : Bool) (offset : ℕ)
    → 0 < length (bytes_of (branching op os when offset))
branching_some op os when offset = omega (arith, branching_length op os when offset, some_byte (nat_lt offset 64))

-- a test with as many operands as it takes, and whether it holds
pub record TestOf (test : Test) (os : List Operand) (vs : List ℕ) : Type 0 where
  pub least : least_operands (test_operation test) ≤ length os
  pub most : length os ≤ most_operands (test_operation test)
  pub result : FitsResult (has_result (test_operation test)) None
  pub branch : (when : Bool) (offset : ℕ) → offset < 16384
      → FitsBranch (has_branch (test_operation test)) (Some (record { when = when; offset = offset }))
  pub does : (when : Bool) (offset : ℕ) (here : Next) (after : ℕ) (st : State)
      → perform (test_operation test) here after None (Some (record { when = when; offset = offset })) vs st
      ≡ branch_on here after (Some (record { when = when; offset = offset })) (stack.holds test vs) st

-- how many operands the instruction of a test has
abbrev pub Counted : Test → ℕ → Type 0
Counted items.is_zero n = n ≡ 1
Counted items.less n = n ≡ 2
Counted items.greater n = n ≡ 2
Counted items.same n = (2 ≤ n) × (n ≤ 4)

pub few_tested : (test : Test) (n : ℕ) → Counted test n → n ≤ 4
few_tested items.is_zero n is = omega (arith, is)
few_tested items.less n is = omega (arith, is)
few_tested items.greater n is = omega (arith, is)
few_tested items.same n is = is.1

pub few_given : (test : Test) (n : ℕ) → IsTestedValue test n → n ≤ 4
few_given items.is_zero n is = omega (arith, is)
few_given items.less n is = omega (arith, is)
few_given items.greater n is = omega (arith, is)
few_given items.same n is = is.1

-- no word is less than the least one
none_less : (v : ℕ) → signed_less v least_word ≡ false
none_less v = go (nat_le 32768 v) refl
  where
    go : (b : Bool) → nat_le 32768 v ≡ b → (if b then nat_lt v 32768 else false) ≡ false
    go true e = le-ltb v 32768 (leb-true _ _ e)
    go false e = refl

-- a test as it is asked
pub record Asked (p : ProgramOf) (locals : ℕ) (s : Situation) (test : Test) (os : List items.Operand)
    (words vs rest : List ℕ) : Type 0 where
  pub test1 : Test
  pub os1 : List items.Operand
  pub vs1 : List ℕ
  pub code : (limit : ℕ) (when : Bool) (offset : ℕ)
      → branch_below limit test os when offset ≡ tested_below limit test1 os1 when offset
  pub counted : Counted test1 (length os1)
  pub all : All (IsOperand p locals) os1
  pub gives : GivesOperands os1 s words vs1 rest
  pub holds : stack.holds test1 vs1 ≡ stack.holds test vs

pub asked : (p : ProgramOf) (locals : ℕ) (s : Situation) (test : Test) (os : List items.Operand)
    (words vs rest : List ℕ)
    → IsTestedValue test (length os) → All (IsOperand p locals) os → GivesOperands os s words vs rest
    → Asked p locals s test os words vs rest
asked p locals s items.is_zero os words vs rest is all g =
    record {
      test1 = items.is_zero;
      os1 = os;
      vs1 = vs;
      code = λ limit when offset. refl;
      counted = is;
      all = all;
      gives = g;
      holds = refl;
    }
asked p locals s items.less os words vs rest is all g =
    record {
      test1 = items.less;
      os1 = os;
      vs1 = vs;
      code = λ limit when offset. refl;
      counted = is;
      all = all;
      gives = g;
      holds = refl;
    }
asked p locals s items.greater os words vs rest is all g =
    record {
      test1 = items.greater;
      os1 = os;
      vs1 = vs;
      code = λ limit when offset. refl;
      counted = is;
      all = all;
      gives = g;
      holds = refl;
    }
asked p locals s items.same [] words vs rest is all g = absurd (omega (arith, is.0))
asked p locals s items.same (o ∷ q ∷ os) words vs rest is all g =
    record {
      test1 = items.same;
      os1 = o ∷ q ∷ os;
      vs1 = vs;
      code = λ limit when offset. refl;
      counted = (omega arith, is.1);
      all = all;
      gives = g;
      holds = refl;
    }
asked p locals s items.same (o ∷ []) words [] rest is all g = absurd g
asked p locals s items.same (o ∷ []) words (v ∷ w ∷ vs) rest is all g =
    absurd (omega (arith, gives_length (o ∷ []) s words (v ∷ w ∷ vs) rest g))
asked p locals s items.same (o ∷ []) words (v ∷ []) rest is all g = record {
  test1 = items.less;
  os1 = o ∷ items.number least_word ∷ [];
  vs1 = v ∷ least_word ∷ [];
  code = λ limit when offset. refl;
  counted = refl;
  all = All-cons (IsOperand p locals) o (items.number least_word ∷ []) (all 0 o (omega arith))
      (All-cons (IsOperand p locals) (items.number least_word) [] tt (All-nil (IsOperand p locals)));
  gives = more o g;
  holds = none_less v;
}
  where
    more : (o : items.Operand) → GivesOperands (o ∷ []) s words (v ∷ []) rest
        → GivesOperands (o ∷ items.number least_word ∷ []) s words (v ∷ least_word ∷ []) rest
    more items.pushed g = (refl, g)
    more (items.number n) g = (g.0, (refl, g.1))
    more (items.variable x) g = (g.0, (refl, g.1))

pub test_of : (test : Test) (os : List Operand) (vs : List ℕ) → length vs ≡ length os → Counted test (length os)
    → TestOf test os vs
unfolding perform
test_of items.is_zero os [] e is = absurd (omega (arith, e, is))
test_of items.is_zero os (v ∷ w ∷ vs) e is = absurd (omega (arith, e, is))
test_of items.is_zero os (v ∷ []) e is =
    record {
      least = omega (arith, is);
      most = omega (arith, is);
      result = tt;
      branch = λ when offset h. h;
      does = λ when offset here after st. refl;
    }
test_of items.less os [] e is = absurd (omega (arith, e, is))
test_of items.less os (v ∷ []) e is = absurd (omega (arith, e, is))
test_of items.less os (v ∷ w ∷ u ∷ vs) e is = absurd (omega (arith, e, is))
test_of items.less os (v ∷ w ∷ []) e is =
    record {
      least = omega (arith, is);
      most = omega (arith, is);
      result = tt;
      branch = λ when offset h. h;
      does = λ when offset here after st. refl;
    }
test_of items.greater os [] e is = absurd (omega (arith, e, is))
test_of items.greater os (v ∷ []) e is = absurd (omega (arith, e, is))
test_of items.greater os (v ∷ w ∷ u ∷ vs) e is = absurd (omega (arith, e, is))
test_of items.greater os (v ∷ w ∷ []) e is =
    record {
      least = omega (arith, is);
      most = omega (arith, is);
      result = tt;
      branch = λ when offset h. h;
      does = λ when offset here after st. refl;
    }
test_of items.same os [] e is = absurd (omega (arith, e, is.0))
test_of items.same os (v ∷ vs) e is =
    record {
      least = is.0;
      most = is.1;
      result = tt;
      branch = λ when offset h. h;
      does = λ when offset here after st. refl;
    }

-- Two operands the other way round

pub counted_turned : (test : Test) (n : ℕ) → Counted test n → Counted (reverse_test test) n
counted_turned items.is_zero n is = is
counted_turned items.less n is = is
counted_turned items.greater n is = is
counted_turned items.same n is = is

equal_turned : (v w : ℕ) → (v == w) ≡ (w == v)
equal_turned v w = go (v == w) refl
  where
    go : (b : Bool) → (v == w) ≡ b → b ≡ (w == v)
    go true e = sym (eq-eqb w v (sym (eqb-true v w e)))
    go false e = sym (ne_eqb w v (λ f. eqb-false v w e (sym f)))

pub holds_turned : (test : Test) (v w : ℕ) → stack.holds (reverse_test test) (w ∷ v ∷ []) ≡ stack.holds test (v ∷ w ∷ [])
holds_turned items.is_zero v w = refl
holds_turned items.less v w = refl
holds_turned items.greater v w = refl
holds_turned items.same v w = ap (λ b. b || false) (equal_turned w v)
