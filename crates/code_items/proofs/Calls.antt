-- Calls.
use Rattle.std.proofs.Common.{◌≡◌, ℕ, ◌+◌, ◌≤◌, List, [], ◌∷◌, length, Some, Bool, true, false, refl, sym, ap}
use Rattle.std.proofs.Common.{◌∙◌, subst, arith}
use Rattle.std.specs.Prelude.{◌&&◌, slice_get}
use Rattle.meaning.specs.Limits.{operands}
use Rattle.meaning.specs.Resolved.{Values}
use Rattle.meaning.specs.Resolved as source
use Rattle.meaning.specs.Accepted.{needs_of}
use Rattle.meaning.specs.World.{Situation, Comes}
use Rattle.meaning.specs.Meaning.{evaluate, evaluate_all}
use Rattle.code_drafts.specs.Items.{Operand, pushed, number, variable, Destination, push, operands_of, is_any_pushed}
use Rattle.code_drafts.specs.Items.{are_more_pushed, call_item, arguments_count, arguments_items}
use Rattle.code_drafts.specs.Items as items
use Rattle.code_drafts.proofs.Counts.{arguments_length}
use Rattle.code_items.specs.Stack.{Next, goes, deliver, enter, act, ItemState}
use Rattle.code_items.specs.Stack as stack
use Rattle.code_items.proofs.Running.{steps_on, Running, code, setting, RunsTo}
use Rattle.code_items.proofs.Standing.{HasAt, split}
use Rattle.code_items.proofs.Needs.{some_needed}
use Rattle.code_items.proofs.Held.{AllHeld, onto_all, with_all_held}
use Rattle.code_items.proofs.Leads.{Leads, on, here, here_with, stands, lands, delivers, at_place}
use Rattle.code_items.proofs.Steps.{by_word}
use Rattle.code_items.proofs.Evaluated.{ValueOk, all_held}
use Rattle.code_items.proofs.Arguments.{topped, arrived, ArgumentsOk}

-- where more than one is pushed, one is
pub any_of_more : (os : List Operand) → are_more_pushed os ≡ true → is_any_pushed os ≡ true
any_of_more [] e = e
any_of_more (pushed ∷ os) e = refl
any_of_more (number n ∷ os) e = any_of_more os e
any_of_more (variable x ∷ os) e = any_of_more os e

-- a pushed one is on the stack
more_onto : (os : List Operand) (vs words : List ℕ) → 1 ≤ length words → 1 ≤ length (onto_all os vs words)
more_onto [] vs words le = le
more_onto (o ∷ os) [] words le = le
more_onto (pushed ∷ os) (v ∷ vs) words le = more_onto os vs (v ∷ words) (omega arith)
more_onto (number n ∷ os) (v ∷ vs) words le = more_onto os vs words le
more_onto (variable x ∷ os) (v ∷ vs) words le = more_onto os vs words le

some_onto : (os : List Operand) (vs words : List ℕ) (s : Situation) → AllHeld os vs s → is_any_pushed os ≡ true
    → 1 ≤ length (onto_all os vs words)
some_onto [] vs words s h e = absurd (cc)
some_onto (o ∷ os) [] words s h e = absurd h
some_onto (pushed ∷ os) (v ∷ vs) words s h e = more_onto os vs (v ∷ words) (omega arith)
some_onto (number n ∷ os) (v ∷ vs) words s h e = some_onto os vs words s h.1 e
some_onto (variable x ∷ os) (v ∷ vs) words s h e = some_onto os vs words s h.1 e

module _ (now : Running) where
  open now use {p, full, routine, callers, room, lower_calls}

  -- the state from which a call begins
  abbrev caller_state : Bool → ℕ → List ℕ → Situation → ItemState
  caller_state true m [] s = here now m [] s
  caller_state true m (v ∷ words) s = here_with now (Some v) m words s
  caller_state false m words s = here now m words s

  arrives_topped : (m : ℕ) (ws : List ℕ) (s : Situation) → topped now m ws s ≡ goes (caller_state true m ws s)
  arrives_topped m [] s = refl
  arrives_topped m (v ∷ ws) s = refl

  arrives : (b : Bool) (os : List Operand) (m : ℕ) (words xs : List ℕ) (s : Situation)
      → arrived now b os m words xs s ≡ goes (caller_state b m (onto_all os xs words) s)
  arrives true os m words xs s = arrives_topped m (onto_all os xs words) s
  arrives false os m words xs s = refl

  -- the routine is entered
  abbrev entered : ℕ → List ℕ → Destination → ℕ → List ℕ → Situation → Next
  entered rr xs dest m words s = enter p rr xs (stack.caller dest words (here now m words s) ∷ callers) s

  module _ (rr : ℕ) (os : List Operand) (dest : Destination) (m : ℕ) (words xs : List ℕ) (s : Situation)
      (held : AllHeld os xs s) where
    from_topped : (ws : List ℕ) → onto_all os xs words ≡ ws → 1 ≤ length ws
        → act p full (Some (items.call_aside rr os dest)) (caller_state true m ws s) ≡ entered rr xs dest m words s
    from_topped [] e le = absurd (omega (arith, le))
    from_topped (v ∷ ws) e le =
        let state = here_with now (Some v) m ws s in
        ap (λ l. stack.with_operands os s l (λ taken rest. enter p rr taken (stack.caller dest rest state ∷ callers) s))
        (sym e)
        ∙ with_all_held os xs s words (λ taken rest. enter p rr taken (stack.caller dest rest state ∷ callers) s) held

    acts : (b : Bool) → (b ≡ true → is_any_pushed os ≡ true)
        → act p full (Some (call_item b rr os dest)) (caller_state b m (onto_all os xs words) s)
        ≡ entered rr xs dest m words s
    acts false some =
        with_all_held os xs s words
        (λ taken rest. enter p rr taken (stack.caller dest rest (here now m (onto_all os xs words) s) ∷ callers) s) held
    acts true some = from_topped (onto_all os xs words) refl (some_onto os xs words s held (some refl))

  steps_there : (b : Bool) (m : ℕ) (ws : List ℕ) (s : Situation) (i : items.Item) → slice_get (code now) m ≡ Some i
      → stack.step p full (caller_state b m ws s) ≡ act p full (Some i) (caller_state b m ws s)
  steps_there true m [] s i h = ap (λ x. act p full x (here now m [] s)) h
  steps_there true m (v ∷ ws) s i h = ap (λ x. act p full x (here_with now (Some v) m ws s)) h
  steps_there false m ws s i h = ap (λ x. act p full x (here now m ws s)) h

  starts : {A : Type 0} {s : Situation} {n : ℕ} {c : Comes A} {behind : A → Situation → Next} (x y : Next) → x ≡ y
      → Leads now s n x c behind → Leads now s n y c behind
  starts {s = s} {n = n} {c = c} {behind = behind} x y e l = subst (λ z. Leads now s n z c behind) e l

  any_of : (b : Bool) (os : List Operand) → are_more_pushed os ≡ b → (b && is_any_pushed os) ≡ b
  any_of true os e = any_of_more os e
  any_of false os e = refl

  call_piece : (b : Bool) (rr : ℕ) (vs : Values) → ArgumentsOk now vs → are_more_pushed (operands_of vs) ≡ b
      → (s : Situation) (n pc m : ℕ) (words : List ℕ) (dest : Destination)
      → HasAt (code now) pc (arguments_items b pc vs) m
      → slice_get (code now) m ≡ Some (call_item b rr (operands_of vs) dest)
      → length words + operands 0 (needs_of vs) ≤ 48
      → Leads now s n (stands now pc words s) (evaluate (setting now) (source.call rr vs) s)
      (lands now dest (m + 1) words)
  call_piece b rr vs ok more s n pc m words dest has h le =
      let some = some_needed 0 (needs_of vs) in
      let os = operands_of vs in
      on now (evaluate_all (setting now) vs) _
      (ok.all b b (any_of b os more) s n (length words) 0 pc m words has (omega arith) le)
      (λ xs s1 e1.
      let held = all_held now vs s s1 xs e1 in
      let from = caller_state b m (onto_all os xs words) s1 in
      starts _ _ (sym (arrives b os m words xs s1)) (record {
        does = λ k _ hd.
            steps_on p full from _ _
            (steps_there b m (onto_all os xs words) s1 (call_item b rr os dest) h
            ∙ acts rr os dest m words xs s1 held b (λ e. any_of_more os (more ∙ e)))
            (lower_calls rr xs (stack.caller dest words (here now m words s1) ∷ callers) s1 k (omega (arith, room))
            (λ v last e2 same low.
            subst (λ l. RunsTo p full
            (deliver dest v (here now (m + 1) words (record { locals = l; world = last.world }))) (k v last)) same
            (delivers now dest (m + 1) words v last (k v last) (omega (arith, le, some)) (hd v last e2 low))));
      }))

  pub call_ok : (rr : ℕ) (vs : Values) → ArgumentsOk now vs → ValueOk now (source.call rr vs)
  call_ok rr vs ok = record {
    value = λ s n pc q words dest has le.
        let b = are_more_pushed (operands_of vs) in
        let m = pc + arguments_count b vs in
        let h = split (code now) pc (arguments_items b pc vs) _ q (arguments_count b vs) (arguments_length b vs pc) has
        in
        at_place now (λ x. lands now dest x words) (m + 1) q h.1.1
        (call_piece b rr vs ok refl s n pc m words dest h.0 h.1.0 le);
    branch = λ s n pc t q words when has before le.
        let b = are_more_pushed (operands_of vs) in
        let m = pc + arguments_count b vs in
        let h = split (code now) pc (arguments_items b pc vs) _ q (arguments_count b vs) (arguments_length b vs pc) has
        in
        by_word now _ (m + 1) t q words when (call_piece b rr vs ok refl s n pc m words push h.0 h.1.0 le) h.1.1.0
        (omega (arith, before, h.1.1.1)) h.1.1.1;
  }
