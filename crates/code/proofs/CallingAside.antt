-- Calls whose last pushed argument was put aside.
use Rattle.std.proofs.Common.{◌≡◌, ℕ, ◌<◌, ◌≤◌, List, [], ◌∷◌, ◌++◌, length, slice_index, Option, Some, None, true}
use Rattle.std.proofs.Common.{refl, ap, subst, arith}
use Rattle.std.specs.List.{All, flat_map}
use Rattle.std.proofs.lemmas.List.{take_all}
use Rattle.zcore.specs.InstructionBytes.{bytes_of}
use Rattle.meaning.specs.Limits.{most_arguments}
use Rattle.code_drafts.specs.Items.{Destination, is_any_pushed}
use Rattle.code_drafts.specs.Items as items
use Rattle.code_items.specs.Stack as stack
use Rattle.code_drafts.specs.Instructions.{takes, aside_variable}
use Rattle.code_instructions.specs.Instructions.{calling, call_code, with_last_aside}
use Rattle.code.proofs.Behind.{Holds}
use Rattle.code.proofs.Play.{HoldsAside}
use Rattle.code.proofs.ItemOperands.{by_operands, gives_count, gives_length, few_pushed, GivesOperands}
use Rattle.code.proofs.Arriving.{Running, at, here, LedFrom, code_here, code_held, situation_here, ArrivesAt}
use Rattle.code.proofs.Taking.{taken_by, apart}
use Rattle.code.proofs.Delivering.{still_aside}
use Rattle.code.proofs.Alone.{IsOperandHere, IsHere}
use Rattle.code.proofs.AsideOperands.{aside_length, moved, with_aside_here, is_read, same_words, aside_variables}
use Rattle.code.proofs.Calling.{entered_led}

module _ (c : Running) where
  open c use {story, a, p, accepted, holds, full, m, count, counts, routine, place, callers, locals, world, good}

  called_aside : (r : ℕ) (os : List items.Operand) (d : Destination) (y : ℕ) (words vs rest : List ℕ)
      → r < length p.routines
      → All (IsOperandHere c) os → is_any_pushed os ≡ true → IsHere c d → length os ≤ 7 → length words ≤ 48
      → HoldsAside story m (Some y) → ArrivesAt c (items.call_aside r os d)
      → GivesOperands os (situation_here c) (y ∷ words) vs rest
      → LedFrom c words (stack.enter p r vs (stack.caller d rest (at c words) ∷ callers) (situation_here c))
  called_aside r os d y words vs rest known all some is_d few room held stands g =
      let named = with_last_aside os in
      let item = items.call_aside r os d in
      let size = aside_length os in
      let s = with_aside_here c y in
      let gives = moved (situation_here c) s y (is_read c y) os words vs rest g some (same_words c y os all) in
      let packed = slice_index a.routines r in
      let code : code_here c item ≡ takes named ++ calling packed named d ∷ [] =
      ap (λ os. call_code packed os d) (take_all most_arguments named (omega (arith, few, size))) in
      let parts = apart c named (calling packed named d ∷ [])
      (subst (λ is. Holds m (here c) (flat_map bytes_of is)) code (code_held c item stands)) in
      let taken = taken_by c s named words vs rest
      (λ other scratch unwritten. aside_variables c y other os scratch
      (still_aside c y other held (unwritten aside_variable (omega (arith, few, size, few_pushed named)) (omega arith))) all)
      (omega (arith, few, size, few_pushed named)) gives parts.takes_held in
      entered_led c item r named d words vs rest known is_d (omega (arith, few, size))
      (omega (arith, room, gives_count named s words vs rest gives))
      (gives_length named s words vs rest gives) stands refl code parts taken

  pub call_aside_led : (r : ℕ) (os : List items.Operand) (d : Destination) (aside : Option ℕ) (words : List ℕ)
      → r < length p.routines → All (IsOperandHere c) os → is_any_pushed os ≡ true → IsHere c d → length os ≤ 7
      → length words ≤ 48 → HoldsAside story m aside → ArrivesAt c (items.call_aside r os d)
      → LedFrom c words (stack.with_aside aside (λ y. stack.with_operands os (situation_here c) (y ∷ words)
      (λ vs rest. stack.enter p r vs (stack.caller d rest (at c words) ∷ callers) (situation_here c))))
  call_aside_led r os d None words known all some is_d few room held stands = tt
  call_aside_led r os d (Some y) words known all some is_d few room held stands =
      by_operands os (situation_here c) (y ∷ words) (LedFrom c words)
      (λ vs rest. stack.enter p r vs (stack.caller d rest (at c words) ∷ callers) (situation_here c)) tt
      (λ vs rest g. called_aside r os d y words vs rest known all some is_d few room held stands g)
