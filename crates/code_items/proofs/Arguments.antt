-- The arguments of a call are evaluated one after another; the last of several that do not stand in place is put aside.
use Rattle.std.proofs.Common.{◌≡◌, ℕ, ◌+◌, ◌≤◌, List, [], ◌∷◌, ◌++◌, length, Some, Bool, true, false, refl, sym, ap}
use Rattle.std.proofs.Common.{◌∙◌, subst, arith}
use Rattle.std.specs.Prelude.{◌&&◌}
use Rattle.meaning.specs.Limits.{operands}
use Rattle.meaning.specs.Resolved.{Value, Values, none, more}
use Rattle.meaning.specs.Resolved as source
use Rattle.meaning.specs.Accepted.{needs_of}
use Rattle.meaning.specs.World.{Situation, Comes, to, bound, ◌>>=◌, give, value_in}
use Rattle.meaning.specs.Meaning.{evaluate, evaluate_all}
use Rattle.code_drafts.specs.Items.{Operand, pushed, number, variable, push, aside, operand_of}
use Rattle.code_drafts.specs.Items.{operands_of, if_pushed, is_any_pushed, argument_place, prefix_operand}
use Rattle.code_drafts.specs.Items.{value_count, value_items, arguments_items}
use Rattle.code_drafts.proofs.CountedForms.{if_length}
use Rattle.code_drafts.proofs.Counts.{value_length}
use Rattle.code_items.specs.Stack.{Next, goes}
use Rattle.code_items.proofs.Running.{Running, code, setting}
use Rattle.code_items.proofs.Standing.{HasAt, split}
use Rattle.code_items.proofs.Held.{onto, onto_length, onto_all, no_variable}
use Rattle.code_items.proofs.Leads.{Leads, on, given, here_with, stands, begins_at, as_part}
use Rattle.code_items.proofs.Evaluated.{ValueOk, operand_does, comes_to}
use Rattle.code_items.proofs.Placed.{placed_at, operand_placed}

-- no operand is pushed
abbrev NonePushed : List Operand → Type 0
NonePushed os = is_any_pushed os ≡ false

none_first : (o : Operand) (os : List Operand) → NonePushed (o ∷ os) → if_pushed o true false ≡ false
none_first pushed os e = absurd (cc)
none_first (number n) os e = refl
none_first (variable x) os e = refl

none_behind : (o : Operand) (os : List Operand) → NonePushed (o ∷ os) → NonePushed os
none_behind pushed os e = absurd (cc)
none_behind (number n) os e = e
none_behind (variable x) os e = e

-- nothing of them is on the stack
none_onto : (os : List Operand) (vs words : List ℕ) → NonePushed os → onto_all os vs words ≡ words
none_onto [] vs words e = refl
none_onto (o ∷ os) [] words e = refl
none_onto (pushed ∷ os) (v ∷ vs) words e = absurd (cc)
none_onto (number n ∷ os) (v ∷ vs) words e = none_onto os vs words e
none_onto (variable x ∷ os) (v ∷ vs) words e = none_onto os vs words e

module _ (now : Running) where
  -- what stands in place is known, and nothing is done for it
  record Known (v : Value) (s : Situation) : Type 0 where
    word : ℕ
    comes : evaluate (setting now) v s ≡ to word s

  known : (v : Value) (later : Values) (s : Situation) → if_pushed (operand_of v later) true false ≡ false → Known v s
  known (source.number k) later s e = record { word = k; comes = refl }
  known (source.read x) later s e = record { word = value_in x s; comes = refl }
  known (source.prefixed op v) later s e = go (prefix_operand op (operand_of v none)) refl e
    where
      go : (o : Operand) → prefix_operand op (operand_of v none) ≡ o → if_pushed o true false ≡ false
          → Known (source.prefixed op v) s
      go pushed f e = absurd (cc)
      go (variable x) f e = absurd (no_variable op (operand_of v none) x f)
      go (number k) f e = record { word = k; comes = comes_to now (source.prefixed op v) k s f }
  known v later s e = absurd (cc)

  record AllKnown (vs : Values) (s : Situation) : Type 0 where
    words : List ℕ
    comes : evaluate_all (setting now) vs s ≡ to words s

  all_known : (vs : Values) (s : Situation) → NonePushed (operands_of vs) → AllKnown vs s
  all_known none s e = record { words = []; comes = refl }
  all_known (more v vs) s e =
      let k = known v vs s (none_first (operand_of v vs) (operands_of vs) e) in
      let r = all_known vs s (none_behind (operand_of v vs) (operands_of vs) e) in
      record {
        words = k.word ∷ r.words;
        comes = ap (λ (c : Comes ℕ). bound c (λ x. evaluate_all (setting now) vs >>= λ xs. give (x ∷ xs))) k.comes
            ∙ ap (λ (c : Comes (List ℕ)). bound c (λ xs. give (k.word ∷ xs))) r.comes;
      }

  none_written : (several : Bool) (vs : Values) (pc q : ℕ) → NonePushed (operands_of vs)
      → HasAt (code now) pc (arguments_items several pc vs) q → pc ≡ q
  none_written several none pc q e has = has
  none_written several (more v vs) pc q e has = go (operand_of v vs) e has (λ f h. none_written several vs pc q f h)
    where
      go : (o : Operand) → NonePushed (o ∷ operands_of vs)
          → HasAt (code now) pc
          (if_pushed o (value_items pc v (argument_place several (is_any_pushed (operands_of vs)))) []
          ++ arguments_items several
          (pc + if_pushed o (value_count v (argument_place several (is_any_pushed (operands_of vs)))) 0) vs) q
          → (NonePushed (operands_of vs) → HasAt (code now) pc (arguments_items several pc vs) q → pc ≡ q)
          → pc ≡ q
      go pushed e has rest = absurd (cc)
      go (number n) e has rest =
          let same : pc + 0 ≡ pc = omega arith in
          rest e (subst (λ k. HasAt (code now) pc (arguments_items several k vs) q) same has)
      go (variable x) e has rest =
          let same : pc + 0 ≡ pc = omega arith in
          rest e (subst (λ k. HasAt (code now) pc (arguments_items several k vs) q) same has)

  -- the topmost word is aside
  abbrev pub topped : ℕ → List ℕ → Situation → Next
  topped q [] s = stands now q [] s
  topped q (v ∷ words) s = goes (here_with now (Some v) q words s)

  -- the arguments are where a call finds them, where the last pushed one is aside, and where none is
  abbrev pub arrived : Bool → List Operand → ℕ → List ℕ → List ℕ → Situation → Next
  arrived true os q words xs s = topped q (onto_all os xs words) s
  arrived false os q words xs s = stands now q (onto_all os xs words) s

  pub record ArgumentsOk (vs : Values) : Type 0 where
    pub all : (several b : Bool) → (several && is_any_pushed (operands_of vs)) ≡ b → (s : Situation)
        (n base before pc q : ℕ) (words : List ℕ) → HasAt (code now) pc (arguments_items several pc vs) q
        → length words ≤ base + before → base + operands before (needs_of vs) ≤ 48
        → Leads now s n (stands now pc words s) (evaluate_all (setting now) vs s)
        (λ xs last. arrived b (operands_of vs) q words xs last)

  reaches : {s : Situation} {n : ℕ} (b : Bool) (os : List Operand) (q : ℕ) (words xs : List ℕ)
      → Leads now s n (arrived b os q words xs s) (to xs s) (λ ys last. arrived b os q words ys last)
  reaches true os q words xs = given now {behind = λ ys last. topped q (onto_all os ys words) last} xs
  reaches false os q words xs = given now {behind = λ ys last. stands now q (onto_all os ys words) last} xs

  never_both : (several : Bool) → (several && false) ≡ true → ⊥
  never_both true e = absurd (cc)
  never_both false e = absurd (cc)

  pub arguments_none : ArgumentsOk none
  arguments_none = record {
    all = λ several b e s n base before pc q words has _ le. begins_at now q pc words (sym has) (go several b e s n q words);
  }
    where
      go : (several b : Bool) → (several && false) ≡ b → (s : Situation) (n q : ℕ) (words : List ℕ)
          → Leads now s n (stands now q words s) (to [] s) (λ xs last. arrived b [] q words xs last)
      go several true e s n q words = absurd (never_both several e)
      go several false e s n q words = reaches false [] q words []

  -- one argument, and those after it
  module _ (v : Value) (vs : Values) (okv : ValueOk now v) (okvs : ArgumentsOk vs) (b : Bool) (s : Situation)
      (n base before pc q : ℕ) (words : List ℕ) (e : length words ≤ base + before)
      (le : base + operands before (needs_of (more v vs)) ≤ 48) where
    ends : {s2 : Situation} (o : Operand) (x : ℕ) (b : Bool) (xs : List ℕ)
        → Leads now s2 n (arrived b (operands_of vs) q (onto o x words) xs s2) (to (x ∷ xs) s2)
        (λ ys last. arrived b (o ∷ operands_of vs) q words ys last)
    ends o x true xs = reaches true (o ∷ operands_of vs) q words (x ∷ xs)
    ends o x false xs = reaches false (o ∷ operands_of vs) q words (x ∷ xs)

    -- the others come after it, where it is on the stack or stands in place
    others : (several : Bool) (o : Operand) (m x : ℕ) (s1 : Situation)
        → HasAt (code now) m (arguments_items several m vs) q → (several && is_any_pushed (operands_of vs)) ≡ b
        → Leads now s1 n (stands now m (onto o x words) s1)
        ((evaluate_all (setting now) vs >>= λ xs. give (x ∷ xs)) s1)
        (λ xs last. arrived b (o ∷ operands_of vs) q words xs last)
    others several o m x s1 has eb =
        on now (evaluate_all (setting now) vs) _
        (okvs.all several b eb s1 n base (before + 1) m q (onto o x words) has
        (omega (arith, e, onto_length o x words)) (omega (arith, le)))
        (λ xs s2 e2. ends o x b xs)

    stacked : (several : Bool)
        → HasAt (code now) pc (if_pushed (operand_of v vs) (value_items pc v push) []
        ++ arguments_items several (pc + if_pushed (operand_of v vs) (value_count v push) 0) vs) q
        → (several && is_any_pushed (operands_of vs)) ≡ b
        → Leads now s n (stands now pc words s) (evaluate_all (setting now) (more v vs) s)
        (λ xs last. arrived b (operand_of v vs ∷ operands_of vs) q words xs last)
    stacked several has eb =
        let o = operand_of v vs in
        let m = pc + if_pushed o (value_count v push) 0 in
        let h = split (code now) pc (if_pushed o (value_items pc v push) []) (arguments_items several m vs) q
        (if_pushed o (value_count v push) 0) (if_length o _ _ (value_length v push pc)) has in
        on now (evaluate (setting now) v) _ (operand_does now v vs okv s n pc m words h.0 (omega (arith, e, le)))
        (λ x s1 e1. others several o m x s1 h.1 eb)

    -- nothing is done for the others, where it is aside
    behind_it : (o : Operand) (m x : ℕ) (s1 : Situation) → HasAt (code now) m (arguments_items true m vs) q
        → NonePushed (operands_of vs) → if_pushed o true false ≡ b
        → Leads now s1 n (placed_at now aside o m words x s1)
        ((evaluate_all (setting now) vs >>= λ xs. give (x ∷ xs)) s1)
        (λ xs last. arrived b (o ∷ operands_of vs) q words xs last)
    behind_it (number k) m x s1 has f eb = others true (number k) m x s1 has (f ∙ eb)
    behind_it (variable z) m x s1 has f eb = others true (variable z) m x s1 has (f ∙ eb)
    behind_it pushed m x s1 has f eb =
        let r = all_known vs s1 f in
        let comes = ap (λ (c : Comes (List ℕ)). bound c (λ xs. give (x ∷ xs))) r.comes in
        let there : topped q (onto_all (operands_of vs) r.words (x ∷ words)) s1
        ≡ goes (here_with now (Some x) m words s1) =
        ap (λ ws. topped q ws s1) (none_onto (operands_of vs) r.words (x ∷ words) f)
        ∙ ap (λ k. goes (here_with now (Some x) k words s1)) (sym (none_written true vs m q f has)) in
        as_part now _ _ (sym comes)
        (subst (λ y. Leads now s1 n y (to (x ∷ r.words) s1)
        (λ xs last. arrived b (pushed ∷ operands_of vs) q words xs last)) there
        (subst (λ c. Leads now s1 n (arrived c (pushed ∷ operands_of vs) q words (x ∷ r.words) s1)
        (to (x ∷ r.words) s1) (λ xs last. arrived b (pushed ∷ operands_of vs) q words xs last)) (sym eb)
        (reaches b (pushed ∷ operands_of vs) q words (x ∷ r.words))))

    set_aside : HasAt (code now) pc (if_pushed (operand_of v vs) (value_items pc v aside) []
        ++ arguments_items true (pc + if_pushed (operand_of v vs) (value_count v aside) 0) vs) q
        → NonePushed (operands_of vs) → if_pushed (operand_of v vs) true false ≡ b
        → Leads now s n (stands now pc words s) (evaluate_all (setting now) (more v vs) s)
        (λ xs last. arrived b (operand_of v vs ∷ operands_of vs) q words xs last)
    set_aside has f eb =
        let o = operand_of v vs in
        let m = pc + if_pushed o (value_count v aside) 0 in
        let h = split (code now) pc (if_pushed o (value_items pc v aside) []) (arguments_items true m vs) q
        (if_pushed o (value_count v aside) 0) (if_length o _ _ (value_length v aside pc)) has in
        on now (evaluate (setting now) v) _ (operand_placed now v vs aside okv s n pc m words h.0 (omega (arith, e, le)))
        (λ x s1 e1. behind_it o m x s1 h.1 f eb)

    either_true : (o : Operand) → if_pushed o true true ≡ true
    either_true pushed = refl
    either_true (number k) = refl
    either_true (variable z) = refl

    by_place : (several any : Bool) → is_any_pushed (operands_of vs) ≡ any
        → (several && if_pushed (operand_of v vs) true any) ≡ b
        → HasAt (code now) pc (if_pushed (operand_of v vs) (value_items pc v (argument_place several any)) []
        ++ arguments_items several
        (pc + if_pushed (operand_of v vs) (value_count v (argument_place several any)) 0) vs) q
        → Leads now s n (stands now pc words s) (evaluate_all (setting now) (more v vs) s)
        (λ xs last. arrived b (operand_of v vs ∷ operands_of vs) q words xs last)
    by_place false true f eb has = stacked false has eb
    by_place false false f eb has = stacked false has eb
    by_place true true f eb has = stacked true has (f ∙ sym (either_true (operand_of v vs)) ∙ eb)
    by_place true false f eb has = set_aside has f eb

  pub arguments_more : (v : Value) (vs : Values) → ValueOk now v → ArgumentsOk vs → ArgumentsOk (more v vs)
  arguments_more v vs okv okvs = record {
    all = λ several b eb s n base before pc q words has e le.
        by_place v vs okv okvs b s n base before pc q words e le several (is_any_pushed (operands_of vs)) refl eb has;
  }
