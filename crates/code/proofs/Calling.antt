-- Calls and returns.
use Rattle.std.proofs.Common.{◌≡◌, ℕ, ◌+◌, ◌<◌, ◌≤◌, List, [], ◌∷◌, ◌++◌, length, slice_index, Some, None, Bool, true}
use Rattle.std.proofs.Common.{false, refl, sym, ap, ◌∙◌, subst, arith}
use Rattle.std.specs.Prelude.{nat_le, if◌then◌else◌, ◌==◌}
use Rattle.std.specs.List.{All, flat_map}
use Rattle.std.proofs.lemmas.Bool.{leb-true, eqb-true}
use Rattle.std.proofs.lemmas.List.{take_all}
use Rattle.std.proofs.lemmas.List.Elements.{All-cons}
use Rattle.zcore.specs.declared.instruction.Operand.TheVariants.{Large}
use Rattle.zcore.specs.declared.instruction.Operation.{Operation}
use Rattle.zcore.specs.declared.instruction.Operation.TheVariants as operations
use Rattle.zcore.specs.declared.next.Next.{Next}
use Rattle.zcore.specs.Instruction.{Instruction}
use Rattle.zcore.specs.InstructionBytes.{bytes_of}
use Rattle.zcore.specs.State.{State}
use Rattle.zcore.specs.Execution.{step, perform, call_packed}
use Rattle.meaning.specs.Resolved.{ProgramOf}
use Rattle.meaning.specs.World.{World}
use Rattle.code_drafts.specs.Items.{Destination}
use Rattle.code_drafts.specs.Items.{Item}
use Rattle.code_drafts.specs.Items as items
use Rattle.code_items.specs.Stack.{Caller}
use Rattle.code_items.specs.Stack as stack
use Rattle.code_drafts.specs.Addresses.{Addresses}
use Rattle.code_drafts.specs.Instructions.{number_of, operands, takes, aside_variable}
use Rattle.meaning.specs.Limits.{most_arguments}
use Rattle.code_instructions.specs.Instructions.{call_operation, call_result, calling, call_code}
use Rattle.code.proofs.Behind.{Holds}
use Rattle.code.proofs.Play.{Leads, next_of, state_of, IsCaller, Led}
use Rattle.code.proofs.Parts.{machine as at_words}
use Rattle.code.proofs.Steps.{point, leads_then, first_held, large_value}
use Rattle.code.proofs.Fitting.{Shaped}
use Rattle.code.proofs.ItemOperands.{with_first, values_then, by_operands, gives_count, gives_length, few_pushed}
use Rattle.code.proofs.ItemOperands.{GivesOperands, operands_length}
use Rattle.code.proofs.Ends.{does_after}
use Rattle.code.proofs.AddressLengths.{one_length}
use Rattle.code.proofs.Entering.{enter_led}
use Rattle.code.proofs.Arriving.{Running, at, around, here, LedFrom, code_here, code_held, situation_here, ArrivesAt}
use Rattle.code.proofs.Temporaries.{made}
use Rattle.code.proofs.Taking.{after_takes, Taken, taken, Apart, apart}
use Rattle.code.proofs.Delivering.{number_small}
use Rattle.code.proofs.Alone.{IsOperandHere, IsHere, next_place, plain_length}
use Rattle.code.specs.ItemBytes.{text_bytes}

-- what is led to from a point is led to from those before it
led_after : (story : List ℕ) (a : Addresses) (p : ProgramOf) (full : ℕ) (before mid : Next) (s t : State) (w : World)
    (next : stack.Next) → Leads before s mid t → Led story a p full mid t w next → Led story a p full before s w next
led_after story a p full before mid s t w (stack.goes x) l led = record {
  memory = led.memory;
  count = led.count;
  counts = led.counts;
  good = led.good;
  leads = leads_then before mid (next_of story a p x) s t (state_of story a p x led.memory led.count led.counts) l
      led.leads;
}
led_after story a p full before mid s t w (stack.ends o) l led = does_after full w o before mid s t l led
led_after story a p full before mid s t w stack.stuck l led = tt

-- A call's instruction

-- by how many arguments an operation is chosen
pub record CallOf (routine : ℕ) (os : List items.Operand) (d : Destination) (vs : List ℕ) : Type 0 where
  pub shaped : Shaped (calling routine os d)
  pub performs : (before : Next) (after : ℕ) (s : State)
      → perform (call_operation (length os) d) before after (call_result d) None (routine ∷ vs) s
      ≡ call_packed before after (call_result d) routine vs s

-- one of four operations
abbrev chosen : Bool → Bool → Bool → Operation → Operation → Operation → Operation → Operation
chosen none one few op op1 op2 op3 = if none then op else (if one then op1 else (if few then op2 else op3))

none_given : (vs : List ℕ) → length vs ≡ 0 → vs ≡ []
none_given [] e = refl
none_given (v ∷ vs) e = absurd (omega (arith, e))

-- a result that is stored
call_storing : (routine : ℕ) (os : List items.Operand) (vs : List ℕ) (v : ℕ) → v < 256 → length vs ≡ length os
    → length os ≤ 7 → (none one few : Bool) → (length os == 0) ≡ none → (length os == 1) ≡ one
    → nat_le (length os) 3 ≡ few
    → Shaped (record {
      operation = chosen none one few operations.Call1s operations.Call2s operations.CallVs operations.CallVs2;
      operands = Large routine ∷ operands os;
      result = Some v;
      branch = None;
    })
    × ((before : Next) (after : ℕ) (s : State)
    → perform (chosen none one few operations.Call1s operations.Call2s operations.CallVs operations.CallVs2) before
    after (Some v) None (routine ∷ vs) s ≡ call_packed before after (Some v) routine vs s)
unfolding perform
call_storing routine os vs v small same most true one few e g f =
    let zero_is = eqb-true (length os) 0 e in
    let nothing = none_given vs (same ∙ zero_is) in (
      record {
        least = omega arith;
        most = omega (arith, zero_is, operands_length os);
        result_fits = small;
        branch_fits = tt;
      },
      λ before after s. ap (λ (xs : List ℕ). call_packed before after (Some v) routine xs s) (sym nothing),
    )
call_storing routine os vs v small same most false true few e g f = (
  record {
    least = omega (arith, eqb-true (length os) 1 g, operands_length os);
    most = omega (arith, eqb-true (length os) 1 g, operands_length os);
    result_fits = small;
    branch_fits = tt;
  },
  λ before after s. refl,
)
call_storing routine os vs v small same most false false true e g f = (
  record {
    least = omega arith;
    most = omega (arith, leb-true _ _ f, operands_length os);
    result_fits = small;
    branch_fits = tt;
  },
  λ before after s. refl,
)
call_storing routine os vs v small same most false false false e g f = (
  record {
    least = omega arith;
    most = omega (arith, most, operands_length os);
    result_fits = small;
    branch_fits = tt;
  },
  λ before after s. refl,
)

call_dropping : (routine : ℕ) (os : List items.Operand) (vs : List ℕ) → length vs ≡ length os → length os ≤ 7
    → (none one few : Bool) → (length os == 0) ≡ none → (length os == 1) ≡ one → nat_le (length os) 3 ≡ few
    → Shaped (record {
      operation = chosen none one few operations.Call1n operations.Call2n operations.CallVn operations.CallVn2;
      operands = Large routine ∷ operands os;
      result = None;
      branch = None;
    })
    × ((before : Next) (after : ℕ) (s : State)
    → perform (chosen none one few operations.Call1n operations.Call2n operations.CallVn operations.CallVn2) before
    after None None (routine ∷ vs) s ≡ call_packed before after None routine vs s)
unfolding perform
call_dropping routine os vs same most true one few e g f =
    let zero_is = eqb-true (length os) 0 e in
    let nothing = none_given vs (same ∙ zero_is) in (
      record {
        least = omega arith;
        most = omega (arith, zero_is, operands_length os);
        result_fits = tt;
        branch_fits = tt;
      },
      λ before after s. ap (λ (xs : List ℕ). call_packed before after None routine xs s) (sym nothing),
    )
call_dropping routine os vs same most false true few e g f = (
  record {
    least = omega (arith, eqb-true (length os) 1 g, operands_length os);
    most = omega (arith, eqb-true (length os) 1 g, operands_length os);
    result_fits = tt;
    branch_fits = tt;
  },
  λ before after s. refl,
)
call_dropping routine os vs same most false false true e g f = (
  record {
    least = omega arith;
    most = omega (arith, leb-true _ _ f, operands_length os);
    result_fits = tt;
    branch_fits = tt;
  },
  λ before after s. refl,
)
call_dropping routine os vs same most false false false e g f = (
  record { least = omega arith; most = omega (arith, most, operands_length os); result_fits = tt; branch_fits = tt },
  λ before after s. refl,
)

call_of : (routine : ℕ) (os : List items.Operand) (d : Destination) (vs : List ℕ) → length vs ≡ length os
    → length os ≤ 7 → CallOf routine os d vs
call_of routine os items.push vs same most = let f =
    call_storing routine os vs 0 (omega arith) same most (length os == 0) (length os == 1) (nat_le (length os) 3) refl
    refl refl in record { shaped = f.0; performs = f.1 }
call_of routine os (items.into x) vs same most = let f =
    call_storing routine os vs (number_of x) (number_small x) same most (length os == 0) (length os == 1)
    (nat_le (length os) 3) refl refl refl in record { shaped = f.0; performs = f.1 }
call_of routine os items.aside vs same most = let f =
    call_storing routine os vs aside_variable (omega arith) same most (length os == 0) (length os == 1)
    (nat_le (length os) 3) refl refl refl in record { shaped = f.0; performs = f.1 }
call_of routine os items.nowhere vs same most = let f =
    call_dropping routine os vs same most (length os == 0) (length os == 1) (nat_le (length os) 3) refl refl refl in
    record { shaped = f.0; performs = f.1 }

module _ (c : Running) where
  open c use {story, a, p, accepted, holds, full, m, count, counts, routine, place, callers, locals, world, good}

  -- a routine is entered, whose arguments are taken
  pub entered_led : (item : Item) (r : ℕ) (os : List items.Operand) (d : Destination) (words vs rest : List ℕ)
      → r < length p.routines → IsHere c d → length os ≤ 7 → length rest ≤ 48 → length vs ≡ length os
      → ArrivesAt c item → text_bytes p.abbreviations item ≡ []
      → code_here c item ≡ takes os ++ calling (slice_index a.routines r) os d ∷ []
      → Apart c os (calling (slice_index a.routines r) os d ∷ []) → Taken c os words vs rest
      → LedFrom c words (stack.enter p r vs (stack.caller d rest (at c words) ∷ callers) (situation_here c))
  entered_led item r os d words vs rest known is_d few room same stands none code parts t =
      led_after story a p full (point (here c) world.fuel) (point q world.fuel)
      (at_words (around c) m locals words world.text) st world
      (stack.enter p r vs (waiting ∷ callers) (situation_here c))
      t.leads
      (enter_led story a p accepted holds full q st t.memory (count ∷ counts) r vs (waiting ∷ callers)
      (situation_here c) known t.scratch.stored good.globals good.sizes
      (All-cons (IsCaller story a p) waiting callers is_caller good.callers) (omega (arith, good.few)) called)
    where
      packed : ℕ
      packed = slice_index a.routines r

      i : Instruction
      i = calling packed os d

      q : ℕ
      q = after_takes c os

      waiting : Caller
      waiting = stack.caller d rest (at c words)

      is_caller : IsCaller story a p waiting
      is_caller = record { known = good.known; locals = good.locals; room = room; destination = is_d }

      st : State
      st = at_words (around c) t.memory locals (with_first os vs rest) world.text

      after : State
      after = at_words (around c) t.memory locals rest world.text

      kinds : CallOf packed os d vs
      kinds = call_of packed os d vs same few

      behind : q + length (bytes_of i) ≡ next_place c
      behind = omega (
        arith,
        stands.next,
        plain_length c item none,
        ap (λ is. length (flat_map bytes_of is)) code,
        parts.sizes,
        one_length i,
      )

      called : step (point q world.fuel) st ≡ call_packed (point q world.fuel) (next_place c) (call_result d) packed
          vs
          after
      called =
          made c t.memory (with_first os vs rest) rest world.text q i (packed ∷ vs) t.scratch (omega arith)
          kinds.shaped
          (first_held m q i [] parts.others)
          (values_then st st after (Large packed) (operands os) packed vs (large_value st packed)
          (t.values world.text))
          ∙ kinds.performs (point q world.fuel) (q + length (bytes_of i)) after
          ∙ ap (λ (x : ℕ). call_packed (point q world.fuel) x (call_result d) packed vs after) behind

  calls_led : (r : ℕ) (os : List items.Operand) (d : Destination) (words vs rest : List ℕ) → r < length p.routines
      → All (IsOperandHere c) os → IsHere c d → length os ≤ 7 → length words ≤ 48
      → ArrivesAt c (items.call r os d) → GivesOperands os (situation_here c) words vs rest
      → LedFrom c words (stack.enter p r vs (stack.caller d rest (at c words) ∷ callers) (situation_here c))
  calls_led r os d words vs rest known all is_d few room stands g =
      let item = items.call r os d in
      let packed = slice_index a.routines r in
      let code : code_here c item ≡ takes os ++ calling packed os d ∷ [] =
      ap (λ os. call_code packed os d) (take_all most_arguments os few) in
      let parts = apart c os (calling packed os d ∷ [])
      (subst (λ is. Holds m (here c) (flat_map bytes_of is)) code (code_held c item stands)) in
      let t = taken c os words vs rest all (omega (arith, few, few_pushed os)) g parts.takes_held in
      entered_led item r os d words vs rest known is_d few
      (omega (arith, room, gives_count os (situation_here c) words vs rest g))
      (gives_length os (situation_here c) words vs rest g) stands refl code parts t

  pub call_led : (r : ℕ) (os : List items.Operand) (d : Destination) (words : List ℕ) → r < length p.routines
      → All (IsOperandHere c) os → IsHere c d → length os ≤ 7 → length words ≤ 48
      → ArrivesAt c (items.call r os d)
      → LedFrom c words (stack.with_operands os (situation_here c) words
      (λ vs rest. stack.enter p r vs (stack.caller d rest (at c words) ∷ callers) (situation_here c)))
  call_led r os d words known all is_d few room stands =
      by_operands os (situation_here c) words (LedFrom c words)
      (λ vs rest. stack.enter p r vs (stack.caller d rest (at c words) ∷ callers) (situation_here c)) tt
      (λ vs rest g. calls_led r os d words vs rest known all is_d few room stands g)
