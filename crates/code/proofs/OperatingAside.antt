-- Items that operate on a word and the one that was put aside.
use Rattle.std.proofs.Common.{◌≡◌, ◌≢◌, ℕ, ◌+◌, ◌-◌, ◌*◌, ◌%◌, ◌≤◌, List, [], ◌∷◌, length, Option, Some, None, true}
use Rattle.std.proofs.Common.{refl, ap, subst, arith}
use Rattle.std.specs.Prelude.{◌==◌, false, bit_and, bit_or}
use Rattle.std.specs.List.{flat_map}
use Rattle.zcore.specs.declared.instruction.Operand.TheVariants.{Variable}
use Rattle.zcore.specs.declared.instruction.Operation.{Operation}
use Rattle.zcore.specs.declared.instruction.Operation.TheVariants as operations
use Rattle.zcore.specs.declared.next.Next.{Next}
use Rattle.zcore.specs.Arithmetic.{quotient, remainder}
use Rattle.zcore.specs.Operations.{least_operands, most_operands, has_result, has_branch}
use Rattle.zcore.specs.InstructionBytes.{FitsBranch, bytes_of}
use Rattle.zcore.specs.State.{State}
use Rattle.zcore.specs.Execution.{give_result, perform}
use Rattle.syntax_trees.specs.declared.tree.Binary.{Binary}
use Rattle.syntax_trees.specs.declared.tree.Binary.TheVariants as binaries
use Rattle.meaning.specs.Meaning as meaning
use Rattle.code_drafts.specs.Items.{Item, Destination}
use Rattle.code_drafts.specs.Items as items
use Rattle.code_items.specs.Stack as stack
use Rattle.code_drafts.specs.Instructions.{giving, in_place, aside_variable, result_in}
use Rattle.code_instructions.specs.Instructions.{divided_by, with_aside}
use Rattle.code.specs.ItemBytes.{text_bytes}
use Rattle.code.proofs.Behind.{Holds}
use Rattle.code.proofs.Play.{stays, HoldsAside}
use Rattle.code.proofs.Parts.{machine as at_words}
use Rattle.code.proofs.Steps.{point, two_operands, variable_value}
use Rattle.code.proofs.Arriving.{Running, at, around, here, LedFrom, code_here, code_held, situation_here, ArrivesAt}
use Rattle.code.proofs.Temporaries.{scratch_here}
use Rattle.code.proofs.Delivering.{reads_aside}
use Rattle.code.proofs.Alone.{by_operand, alone_count, alone_value, IsOperandHere, IsHere, plain_length, single}
use Rattle.code.proofs.Alone.{gives_led}
use Rattle.code.proofs.Arithmetic.{shaped_result, to}
use Rattle.code.proofs.Operating.{Divided, divides_led, divides, divides_rest}

module _ (c : Running) where
  open c use {story, a, p, accepted, holds, full, m, count, counts, routine, place, callers, locals, world, good}

  -- without a test
  reckons_aside : (item : Item) (op : Operation) (f : ℕ → ℕ → ℕ) (x : items.Operand) (y : ℕ) (d : Destination)
      (s : List ℕ) → IsOperandHere c x → IsHere c d → length s ≤ 48 → HoldsAside story m (Some y) → ArrivesAt c item
      → code_here c item ≡ with_aside op x d → text_bytes p.abbreviations item ≡ []
      → least_operands op ≤ 2 → 2 ≤ most_operands op → has_result op ≡ true → FitsBranch (has_branch op) None
      → ((v w : ℕ) (before : Next) (after : ℕ) (st : State)
      → perform op before after (Some (result_in d)) None (v ∷ w ∷ []) st
      ≡ give_result before after (Some (result_in d)) (f v w) st)
      → LedFrom c s (stack.with_operand x (situation_here c) s (λ v rest. to c d (f v y) s rest))
  reckons_aside item op f x y d s is is_d short held stands code none least most result branch performs =
      by_operand x (situation_here c) s (LedFrom c s) (λ v rest. to c d (f v y) s rest) tt (λ v rest h.
      let os = in_place x ∷ Variable aside_variable ∷ [] in
      let st = at_words (around c) m locals s world.text in
      let st1 = at_words (around c) m locals rest world.text in
      let there = single c item (giving op os (result_in d)) code none stands in
      gives_led c op os d (f v y) (here c) s s rest m (v ∷ y ∷ []) is_d (scratch_here c)
      (omega (arith, short, alone_count x (situation_here c) s v rest h)) (omega arith)
      (shaped_result op os d least most result branch) there.held there.end
      (two_operands st st1 st1 (in_place x) (Variable aside_variable) v y
      (alone_value c x m world.text s v rest (scratch_here c) is h)
      (variable_value (around c) m locals rest world.text aside_variable y (reads_aside c y held)))
      (performs v y) (stays (point (here c) world.fuel) st))

  -- a division
  divides_aside : (item : Item) (op : Operation) (f : ℕ → ℕ → ℕ) (x : items.Operand) (y : ℕ) (d : Destination)
      (s : List ℕ) → IsOperandHere c x → IsHere c d → length s ≤ 48 → HoldsAside story m (Some y) → ArrivesAt c item
      → code_here c item ≡ divided_by a op x aside_variable d → text_bytes p.abbreviations item ≡ []
      → least_operands op ≤ 2 → 2 ≤ most_operands op → has_result op ≡ true → FitsBranch (has_branch op) None
      → ((v w : ℕ) → (w == 0) ≡ false → (before : Next) (after : ℕ) (st : State)
      → perform op before after (Some (result_in d)) None (v ∷ w ∷ []) st
      ≡ give_result before after (Some (result_in d)) (f v w) st)
      → LedFrom c s (stack.with_operand x (situation_here c) s (λ v rest. Divided c (y == 0) (f v y) d s rest))
  divides_aside item op f x y d s is is_d short held stands code none least most result branch performs =
      let h = subst (λ is. Holds m (here c) (flat_map bytes_of is)) code (code_held c item stands) in
      let size = plain_length c item none in
      let same = ap (λ is. length (flat_map bytes_of is)) code in
      divides_led c op f x aside_variable y (here c) d s s m is is_d (scratch_here c) (omega arith) short
      (reads_aside c y held) h (omega (arith, stands.next, size, same)) stands.followed least most result branch performs
      (stays (point (here c) world.fuel) (at_words (around c) m locals s world.text))

  by_operator : (op : Binary) (x : items.Operand) (y : ℕ) (d : Destination) (s : List ℕ) → IsOperandHere c x
      → IsHere c d → op ≢ binaries.AndAlso → op ≢ binaries.OrElse → length s ≤ 48 → HoldsAside story m (Some y)
      → ArrivesAt c (items.operate_aside op x d)
      → LedFrom c s (stack.with_operand x (situation_here c) s
      (λ v rest. stack.gives (meaning.operate op v y) d rest (at c s)))
  unfolding perform
  by_operator binaries.AndAlso x y d s is is_d no_and no_or short held stands = absurd (no_and refl)
  by_operator binaries.OrElse x y d s is is_d no_and no_or short held stands = absurd (no_or refl)
  by_operator binaries.Add x y d s is is_d no_and no_or short held stands =
      reckons_aside (items.operate_aside binaries.Add x d) operations.Add (λ v w. (v + w) % 65536) x y d s is is_d
      short held stands refl refl (omega arith) (omega arith) refl tt (λ v w here after st. refl)
  by_operator binaries.Subtract x y d s is is_d no_and no_or short held stands =
      reckons_aside (items.operate_aside binaries.Subtract x d) operations.Sub (λ v w. (v + 65536 - w) % 65536) x y d s
      is is_d short held stands refl refl (omega arith) (omega arith) refl tt (λ v w here after st. refl)
  by_operator binaries.Multiply x y d s is is_d no_and no_or short held stands =
      reckons_aside (items.operate_aside binaries.Multiply x d) operations.Mul (λ v w. v * w % 65536) x y d s is is_d
      short held stands refl refl (omega arith) (omega arith) refl tt (λ v w here after st. refl)
  by_operator binaries.And x y d s is is_d no_and no_or short held stands =
      reckons_aside (items.operate_aside binaries.And x d) operations.And bit_and x y d s is is_d short held stands refl
      refl (omega arith) (omega arith) refl tt (λ v w here after st. refl)
  by_operator binaries.Or x y d s is is_d no_and no_or short held stands =
      reckons_aside (items.operate_aside binaries.Or x d) operations.Or bit_or x y d s is is_d short held stands refl
      refl (omega arith) (omega arith) refl tt (λ v w here after st. refl)
  by_operator binaries.Divide x y d s is is_d no_and no_or short held stands =
      divides_aside (items.operate_aside binaries.Divide x d) operations.Div quotient x y d s is is_d short held stands
      refl refl (omega arith) (omega arith) refl tt
      (λ v w e here after st. divides here after (result_in d) v w st e)
  by_operator binaries.Remainder x y d s is is_d no_and no_or short held stands =
      divides_aside (items.operate_aside binaries.Remainder x d) operations.Mod remainder x y d s is is_d short held
      stands refl refl (omega arith) (omega arith) refl tt
      (λ v w e here after st. divides_rest here after (result_in d) v w st e)

  pub operate_aside_led : (op : Binary) (x : items.Operand) (d : Destination) (aside : Option ℕ) (s : List ℕ)
      → IsOperandHere c x → IsHere c d → op ≢ binaries.AndAlso → op ≢ binaries.OrElse → length s ≤ 48
      → HoldsAside story m aside → ArrivesAt c (items.operate_aside op x d)
      → LedFrom c s (stack.with_aside aside (λ y. stack.with_operand x (situation_here c) s
      (λ v rest. stack.gives (meaning.operate op v y) d rest (at c s))))
  operate_aside_led op x d None s is is_d no_and no_or short held stands = tt
  operate_aside_led op x d (Some y) s is is_d no_and no_or short held stands =
      by_operator op x y d s is is_d no_and no_or short held stands
