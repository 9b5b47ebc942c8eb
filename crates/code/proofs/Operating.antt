-- Items that operate on words, with the fault of a division.
use Rattle.std.proofs.Common.{◌≡◌, ◌≢◌, ℕ, zero, suc, ◌+◌, ◌-◌, ◌*◌, ◌%◌, ◌<◌, ◌≤◌, List, [], ◌∷◌, ◌++◌, length, Some}
use Rattle.std.proofs.Common.{None, Bool, true, false, refl, ap, subst, arith, length-append}
use Rattle.std.specs.Prelude.{nat_le, if◌then◌else◌, ◌==◌, bit_and, bit_or}
use Rattle.std.specs.List.{flat_map}
use Rattle.std.proofs.Math.Nat.{mul_comm}
use Rattle.std.proofs.lemmas.Bool.{le-leb}
use Rattle.std.proofs.lemmas.Nat.{and_comm, or_comm}
use Rattle.zcore.specs.declared.instruction.Operand.TheVariants.{Variable}
use Rattle.zcore.specs.declared.instruction.Operation.{Operation}
use Rattle.zcore.specs.declared.instruction.Operation.TheVariants as operations
use Rattle.zcore.specs.declared.next.Next.{Next}
use Rattle.zcore.specs.Arithmetic.{quotient, remainder}
use Rattle.zcore.specs.Operations.{least_operands, most_operands, has_result, has_branch}
use Rattle.zcore.specs.Instruction.{Instruction}
use Rattle.zcore.specs.InstructionBytes.{FitsBranch, bytes_of}
use Rattle.zcore.specs.State.{State, done}
use Rattle.zcore.specs.Parts.{operand_value}
use Rattle.zcore.specs.Execution.{give_result, divide, modulo, perform}
use Rattle.syntax_trees.specs.declared.tree.Binary.{Binary}
use Rattle.syntax_trees.specs.declared.tree.Binary.TheVariants as binaries
use Rattle.meaning.specs.declared.cause.Cause.TheVariants as causes
use Rattle.meaning.specs.World.{value_in}
use Rattle.meaning.specs.World as source
use Rattle.meaning.specs.Meaning as meaning
use Rattle.code_drafts.specs.Items.{Item, Destination}
use Rattle.code_drafts.specs.Items as items
use Rattle.code_items.specs.Stack as stack
use Rattle.code_drafts.specs.Addresses.{fault_address}
use Rattle.code_drafts.specs.Instructions.{giving, branching, in_place, result_in, number_of, pull, fail}
use Rattle.code_instructions.specs.Instructions.{divided_by, divided}
use Rattle.code.specs.ItemBytes.{text_bytes}
use Rattle.code.proofs.Behind.{Holds, holds_append}
use Rattle.code.proofs.Play.{Leads, stays}
use Rattle.code.proofs.Memory.{with_variable}
use Rattle.code.proofs.Parts.{machine as at_words, ReadsVariable}
use Rattle.code.proofs.Steps.{point, leads_then, one_step, first_held, others_held, one_operand, two_operands}
use Rattle.code.proofs.Steps.{variable_value, landing}
use Rattle.code.proofs.SingleSteps.{branch_step}
use Rattle.code.proofs.Fitting.{Shaped, held_bytes, encodable}
use Rattle.code.proofs.ItemOperands.{constant_value}
use Rattle.code.proofs.Texts.{cause_line}
use Rattle.code.proofs.AddressLengths.{one_length}
use Rattle.code.proofs.Arriving.{Running, at, around, here, high, above, kept, LedFrom, code_here, code_held, ArrivesAt}
use Rattle.code.proofs.Arriving.{situation_here}
use Rattle.code.proofs.Variables.{variable_held}
use Rattle.code.proofs.Temporaries.{Scratch, scratch_here, scratch_with, reads_written, held_in, pull_temporary}
use Rattle.code.proofs.Temporaries.{others_held_pull}
use Rattle.code.proofs.Alone.{Alone, by_operand, alone_count, alone_value, IsOperandHere, IsHere, next_place}
use Rattle.code.proofs.Alone.{plain_length, gives_led}
use Rattle.code.proofs.ItemsThatPrint.{fails_led}
use Rattle.code.proofs.Arithmetic.{shaped_result, reckons_led, commutes_led}

turned_sum : (v w : ℕ) → (w + v) % 65536 ≡ (v + w) % 65536
turned_sum v w = let e : w + v ≡ v + w = omega arith in ap (λ (n : ℕ). n % 65536) e

pub some_is : (y : ℕ) → (y == 0) ≡ false → 1 ≤ y
some_is zero e = absurd cc
some_is (suc y) e = omega arith

-- a division by another number than 0
pub divides : (here : Next) (after v x y : ℕ) (s : State) → (y == 0) ≡ false
    → divide here after (Some v) x y s ≡ give_result here after (Some v) (quotient x y) s
unfolding divide give_result
divides here after v x y s e = let some : nat_le 1 y ≡ true = le-leb 1 y (some_is y e) in rw some refl

pub divides_rest : (here : Next) (after v x y : ℕ) (s : State) → (y == 0) ≡ false
    → modulo here after (Some v) x y s ≡ give_result here after (Some v) (remainder x y) s
unfolding modulo give_result
divides_rest here after v x y s e = let some : nat_le 1 y ≡ true = le-leb 1 y (some_is y e) in rw some refl

module _ (c : Running) where
  open c use {story, a, p, accepted, holds, full, m, count, counts, routine, place, callers, locals, world, good}

  -- Divisions

  abbrev test_of : ℕ → Instruction
  test_of variable = branching operations.JumpIfZero (Variable variable ∷ []) false 6

  -- what a division comes to
  abbrev pub Divided : Bool → ℕ → Destination → List ℕ → List ℕ → stack.Next
  Divided faulty w d before rest =
      stack.after_part
      ((if faulty then source.fault causes.DivisionByZero else source.give w) (situation_here c))
      (λ v situation. stack.deliver d v (stack.after (at c before) rest situation))

  -- what stands after the test
  record Tested (op : Operation) (x : items.Operand) (variable q : ℕ) (d : Destination) : Type 0 where
    test : Holds m q (bytes_of (test_of variable))
    fault : Holds m (q + 3) (flat_map bytes_of (fail (fault_address a causes.DivisionByZero)))
    last : Holds m (q + 7) (bytes_of (giving op (in_place x ∷ Variable variable ∷ []) (result_in d)))
    size : length (flat_map bytes_of (divided_by a op x variable d))
        ≡ 7 + length (bytes_of (giving op (in_place x ∷ Variable variable ∷ []) (result_in d)))

  tested : (op : Operation) (x : items.Operand) (variable q : ℕ) (d : Destination)
      → Holds m q (flat_map bytes_of (divided_by a op x variable d)) → Tested op x variable q d
  unfolding bytes_of
  tested op x variable q d h =
      let i = giving op (in_place x ∷ Variable variable ∷ []) (result_in d) in
      let rest = fail (fault_address a causes.DivisionByZero) ++ i ∷ [] in
      let h1 = others_held m q (test_of variable) rest h in
      let parts = holds_append m (q + 3) (flat_map bytes_of (fail (fault_address a causes.DivisionByZero)))
      (flat_map bytes_of (i ∷ []))
      h1 in
      let number : q + 3 + 4 ≡ q + 7 = omega arith in
      record {
        test = first_held m q (test_of variable) rest h;
        fault = parts.0;
        last = first_held m (q + 7) i [] (subst (λ k. Holds m k (flat_map bytes_of (i ∷ []))) number parts.1);
        size = omega (arith, length-append (bytes_of i) []);
      }

  -- the divisor is tested, and the division done
  pub divides_led : (op : Operation) (f : ℕ → ℕ
      → ℕ) (x : items.Operand) (variable y q : ℕ) (d : Destination) (before mid other : List ℕ) → IsOperandHere c x
      → IsHere c d → Scratch c other → here c ≤ q → length mid ≤ 48
      → ReadsVariable (around c) other locals variable y → Holds m q (flat_map bytes_of (divided_by a op x variable d))
      → q + length (flat_map bytes_of (divided_by a op x variable d)) ≡ next_place c → next_place c < length m
      → least_operands op ≤ 2 → 2 ≤ most_operands op → has_result op ≡ true → FitsBranch (has_branch op) None
      → ((v w : ℕ) → (w == 0) ≡ false → (before : Next) (after : ℕ) (st : State)
      → perform op before after (Some (result_in d)) None (v ∷ w ∷ []) st
      ≡ give_result before after (Some (result_in d)) (f v w) st)
      → Leads (point (here c) world.fuel) (at_words (around c) m locals before world.text) (point q world.fuel)
      (at_words (around c) other locals mid world.text)
      → LedFrom c before (stack.with_operand x (situation_here c) mid
      (λ v rest. Divided (y == 0) (f v y) d before rest))
  unfolding bytes_of perform
  divides_led op f x variable y q d before mid other is is_d scratch from short reads h end followed least most result
      branch performs leads =
      by_operand x (situation_here c) mid (LedFrom c before) (λ v rest. Divided (y == 0) (f v y) d before rest) tt
      (λ v rest alone. go (y == 0) refl v rest alone)
    where
      parts : Tested op x variable q d
      parts = tested op x variable q d h

      st : State
      st = at_words (around c) other locals mid world.text

      i : Instruction
      i = giving op (in_place x ∷ Variable variable ∷ []) (result_in d)

      shaped_test : Shaped (test_of variable)
      shaped_test = record { least = omega arith; most = omega arith; result_fits = tt; branch_fits = omega arith }

      value : operand_value (Variable variable) st ≡ done y st
      value = variable_value (around c) other locals mid world.text variable y reads

      tests : Leads (point q world.fuel) st (point (landing false (y == 0) (q + 3) 4) world.fuel) st
      tests =
          one_step (point q world.fuel) (point (landing false (y == 0) (q + 3) 4) world.fuel) st st
          (branch_step (around c) world.fuel other locals mid mid world.text q 4 operations.JumpIfZero
          (Variable variable ∷ []) (y ∷ []) false (y == 0)
          (encodable (test_of variable) shaped_test
          (held_bytes _ q story m (bytes_of (test_of variable)) holds.byte_each (kept c) (omega (arith, high c, from))
          parts.test))
          (one_operand st st (Variable variable) y value) (λ here after st. refl) (omega arith)
          (omega (arith, above c, from)) (omega arith)
          (omega (arith, end, followed, parts.size, good.stored.size, scratch.stored.size))
          (held_in c other (bytes_of (test_of variable)) q scratch from parts.test))

      go : (b : Bool) → (y == 0) ≡ b → (v : ℕ) (rest : List ℕ) → Alone x (situation_here c) mid v rest
          → LedFrom c before (Divided b (f v y) d before rest)
      go true e v rest alone =
          let there = subst (λ b. Leads (point q world.fuel) st (point (landing false b (q + 3) 4) world.fuel) st) e
          tests in
          fails_led c causes.DivisionByZero (fault_address a causes.DivisionByZero) (q + 3) before mid other
          (λ v situation. stack.deliver d v (stack.after (at c before) rest situation))
          (cause_line causes.DivisionByZero)
          (holds.faults causes.DivisionByZero)
          (omega (arith, from)) scratch parts.fault
          (leads_then (point (here c) world.fuel) (point q world.fuel) (point (q + 3) world.fuel)
          (at_words (around c) m locals before world.text) st st leads there)
      go false e v rest alone =
          let number : q + 3 + 4 ≡ q + 7 = omega arith in
          let there = subst (λ b. Leads (point q world.fuel) st (point (landing false b (q + 3) 4) world.fuel) st) e
          tests in
          let all = subst (λ k. Leads (point (here c) world.fuel) (at_words (around c) m locals before world.text)
          (point k world.fuel) st) number
          (leads_then (point (here c) world.fuel) (point q world.fuel) (point (q + 3 + 4) world.fuel)
          (at_words (around c) m locals before world.text) st st leads there) in
          gives_led c op (in_place x ∷ Variable variable ∷ []) d (f v y) (q + 7) before mid rest other
          (v ∷ y ∷ []) is_d scratch (omega (arith, short, alone_count x (situation_here c) mid v rest alone))
          (omega (arith, from))
          (shaped_result op (in_place x ∷ Variable variable ∷ []) d least most result branch) parts.last
          (omega (arith, end, parts.size))
          (two_operands st (at_words (around c) other locals rest world.text)
          (at_words (around c) other locals rest world.text) (in_place x) (Variable variable) v y
          (alone_value c x other world.text mid v rest scratch is alone)
          (variable_value (around c) other locals rest world.text variable y reads))
          (performs v y e) all

  -- a division by a number
  number_led : (op : Operation) (f : ℕ → ℕ → ℕ) (x : items.Operand) (n : ℕ) (d : Destination) (s : List ℕ) (b : Bool)
      → (n == 0) ≡ b → IsOperandHere c x → IsHere c d → length s ≤ 48
      → Holds m (here c) (flat_map bytes_of (if b then fail (fault_address a causes.DivisionByZero)
      else giving op (in_place x ∷ in_place (items.number n) ∷ []) (result_in d) ∷ []))
      → here c + length (flat_map bytes_of (if b then fail (fault_address a causes.DivisionByZero)
      else giving op (in_place x ∷ in_place (items.number n) ∷ []) (result_in d) ∷ [])) ≡ next_place c
      → least_operands op ≤ 2 → 2 ≤ most_operands op → has_result op ≡ true → FitsBranch (has_branch op) None
      → ((v w : ℕ) → (w == 0) ≡ false → (before : Next) (after : ℕ) (st : State)
      → perform op before after (Some (result_in d)) None (v ∷ w ∷ []) st
      ≡ give_result before after (Some (result_in d)) (f v w) st)
      → LedFrom c s (stack.with_operand x (situation_here c) s (λ v rest. Divided b (f v n) d s rest))
  number_led op f x n d s true e is is_d short h end least most result branch performs =
      by_operand x (situation_here c) s (LedFrom c s) (λ v rest. Divided true (f v n) d s rest) tt (λ v rest alone.
      fails_led c causes.DivisionByZero (fault_address a causes.DivisionByZero) (here c) s s m
      (λ v situation. stack.deliver d v (stack.after (at c s) rest situation)) (cause_line causes.DivisionByZero)
      (holds.faults causes.DivisionByZero)
      (omega arith) (scratch_here c) h
      (stays (point (here c) world.fuel) (at_words (around c) m locals s world.text)))
  number_led op f x n d s false e is is_d short h end least most result branch performs =
      by_operand x (situation_here c) s (LedFrom c s) (λ v rest. Divided false (f v n) d s rest) tt (λ v rest alone.
      let os = in_place x ∷ in_place (items.number n) ∷ [] in
      let i = giving op os (result_in d) in
      let st = at_words (around c) m locals s world.text in
      let st1 = at_words (around c) m locals rest world.text in
      gives_led c op os d (f v n) (here c) s s rest m (v ∷ n ∷ []) is_d (scratch_here c)
      (omega (arith, short, alone_count x (situation_here c) s v rest alone)) (omega arith)
      (shaped_result op os d least most result branch) (first_held m (here c) i [] h)
      (omega (arith, end, one_length i))
      (two_operands st st1 st1 (in_place x) (in_place (items.number n)) v n
      (alone_value c x m world.text s v rest (scratch_here c) is alone) (constant_value st1 n))
      (performs v n e) (stays (point (here c) world.fuel) st))

  divided_led : (item : Item) (op : Operation) (f : ℕ → ℕ → ℕ) (x y : items.Operand) (d : Destination) (s : List ℕ)
      → IsOperandHere c x → IsOperandHere c y → IsHere c d → length s ≤ 48 → ArrivesAt c item
      → code_here c item ≡ divided a op x y d → text_bytes p.abbreviations item ≡ []
      → least_operands op ≤ 2 → 2 ≤ most_operands op → has_result op ≡ true → FitsBranch (has_branch op) None
      → ((v w : ℕ) → (w == 0) ≡ false → (before : Next) (after : ℕ) (st : State)
      → perform op before after (Some (result_in d)) None (v ∷ w ∷ []) st
      ≡ give_result before after (Some (result_in d)) (f v w) st)
      → LedFrom c s (stack.with_operand y (situation_here c) s
      (λ w left. stack.with_operand x (situation_here c) left (λ v rest. Divided (w == 0) (f v w) d s rest)))
  unfolding bytes_of
  divided_led item op f x items.pushed d [] is is_y is_d short stands code none least most result branch performs = tt
  divided_led item op f x items.pushed d (w ∷ s) is is_y is_d short stands code none least most result branch
      performs =
      let m1 = with_variable m 248 w in
      let scratch = scratch_with c m 248 w (scratch_here c) (omega arith) (omega arith) in
      let h = subst (λ is. Holds m (here c) (flat_map bytes_of is)) code (code_held c item stands) in
      let size = plain_length c item none in
      let same = ap (λ is. length (flat_map bytes_of is)) code in
      divides_led op f x 248 w (here c + 3) d (w ∷ s) s m1 is is_d scratch (omega arith) (omega (arith, short))
      (reads_written c m 248 w (scratch_here c) (omega arith) (omega arith))
      (others_held_pull c 248 (divided_by a op x 248 d) (here c) h) (omega (arith, stands.next, size, same))
      stands.followed least most result branch performs
      (one_step (point (here c) world.fuel) (point (here c + 3) world.fuel)
      (at_words (around c) m locals (w ∷ s) world.text) (at_words (around c) m1 locals s world.text)
      (pull_temporary c m s world.text (here c) 248 w (scratch_here c) (omega arith) (omega arith) (omega arith)
      (first_held m (here c) (pull 248) (divided_by a op x 248 d) h)))
  divided_led item op f x (items.number n) d s is is_y is_d short stands code none least most result branch performs =
      let h = subst (λ is. Holds m (here c) (flat_map bytes_of is)) code (code_held c item stands) in
      let size = plain_length c item none in
      let same = ap (λ is. length (flat_map bytes_of is)) code in
      number_led op f x n d s (n == 0) refl is is_d short h (omega (arith, stands.next, size, same)) least most result
      branch performs
  divided_led item op f x (items.variable y) d s is is_y is_d short stands code none least most result branch
      performs =
      let h = subst (λ is. Holds m (here c) (flat_map bytes_of is)) code (code_held c item stands) in
      let size = plain_length c item none in
      let same = ap (λ is. length (flat_map bytes_of is)) code in
      divides_led op f x (number_of y) (value_in y (situation_here c)) (here c) d s s m is is_d (scratch_here c)
      (omega arith) short (variable_held c m y (scratch_here c) is_y).reads
      h (omega (arith, stands.next, size, same)) stands.followed least most result branch performs
      (stays (point (here c) world.fuel) (at_words (around c) m locals s world.text))

  pub operate_led : (op : Binary) (x y : items.Operand) (d : Destination) (s : List ℕ) → IsOperandHere c x
      → IsOperandHere c y → IsHere c d → op ≢ binaries.AndAlso → op ≢ binaries.OrElse → length s ≤ 48
      → ArrivesAt c (items.operate op x y d)
      → LedFrom c s (stack.with_operand y (situation_here c) s
      (λ w left. stack.with_operand x (situation_here c) left
      (λ v rest. stack.gives (meaning.operate op v w) d rest (at c s))))
  unfolding perform
  operate_led binaries.AndAlso x y d s is is_y is_d no_and no_or short stands = absurd (no_and refl)
  operate_led binaries.OrElse x y d s is is_y is_d no_and no_or short stands = absurd (no_or refl)
  operate_led binaries.Add x y d s is is_y is_d no_and no_or short stands =
      commutes_led c (items.operate binaries.Add x y d) operations.Add (λ v w. (v + w) % 65536) x y d s is is_y is_d
      short stands refl refl (omega arith) (omega arith) refl tt turned_sum
      (λ v w here after st. refl)
  operate_led binaries.Subtract x y d s is is_y is_d no_and no_or short stands =
      reckons_led c (items.operate binaries.Subtract x y d) operations.Sub (λ v w. (v + 65536 - w) % 65536) x y d s is
      is_y is_d short stands refl refl (omega arith) (omega arith) refl tt (λ v w here after st. refl)
  operate_led binaries.Multiply x y d s is is_y is_d no_and no_or short stands =
      commutes_led c (items.operate binaries.Multiply x y d) operations.Mul (λ v w. v * w % 65536) x y d s is is_y is_d
      short stands refl refl (omega arith) (omega arith) refl tt (λ v w. ap (λ n. n % 65536) (mul_comm w v))
      (λ v w here after st. refl)
  operate_led binaries.And x y d s is is_y is_d no_and no_or short stands =
      commutes_led c (items.operate binaries.And x y d) operations.And bit_and x y d s is is_y is_d
      short stands refl refl (omega arith) (omega arith) refl tt (λ v w. and_comm w v)
      (λ v w here after st. refl)
  operate_led binaries.Or x y d s is is_y is_d no_and no_or short stands =
      commutes_led c (items.operate binaries.Or x y d) operations.Or bit_or x y d s is is_y is_d
      short stands refl refl (omega arith) (omega arith) refl tt (λ v w. or_comm w v)
      (λ v w here after st. refl)
  operate_led binaries.Divide x y d s is is_y is_d no_and no_or short stands =
      divided_led (items.operate binaries.Divide x y d) operations.Div quotient x y d s is is_y is_d short stands refl
      refl (omega arith) (omega arith) refl tt (λ v w e here after st. divides here after (result_in d) v w st e)
  operate_led binaries.Remainder x y d s is is_y is_d no_and no_or short stands =
      divided_led (items.operate binaries.Remainder x y d) operations.Mod remainder x y d s is is_y is_d short stands
      refl refl (omega arith) (omega arith) refl tt
      (λ v w e here after st. divides_rest here after (result_in d) v w st e)
