-- What a run does while the word of a `switch` is put aside, and how its cases test that word.
use Rattle.std.proofs.Common.{◌≡◌, ℕ, zero, suc, ◌+◌, ◌<◌, List, [], ◌∷◌, Option, Some, None, Bool, true, false, refl}
use Rattle.std.proofs.Common.{ap, ◌∙◌, subst}
use Rattle.std.specs.Prelude.{if◌then◌else◌, nat_lt, slice_get}
use Rattle.std.proofs.lemmas.Bool.{lt-ltb}
use Rattle.meaning.specs.Resolved.{ProgramOf}
use Rattle.meaning.specs.World.{Outcome, Situation, Comes, to, over}
use Rattle.meaning.specs.Meaning.{routine_at}
use Rattle.code_drafts.specs.Items.{Item, Operand, pushed, number, variable, Test, agrees}
use Rattle.code_items.specs.Statements.{routine_items}
use Rattle.code_drafts.specs.Items as items
use Rattle.code_items.specs.Stack.{Caller, Next, goes, stuck, with_operand, with_operands, branch, holds, act}
use Rattle.code_items.specs.Stack.{ItemState, from, exec, after_part, stands_in, tested_attribute, is_provided}
use Rattle.code_items.specs.Stack.{begins_objects, steps_object}
use Rattle.code_items.specs.Stack as stack
use Rattle.code_items.proofs.Running.{steps_on, Running, code, RunsTo}
use Rattle.code_items.proofs.Leads.{Leads, stands}

-- what follows operands does alike
with_operand_alike : (o : Operand) (s : Situation) (words : List ℕ) (f g : ℕ → List ℕ → Next)
    → ((v : ℕ) (rest : List ℕ) → f v rest ≡ g v rest) → with_operand o s words f ≡ with_operand o s words g
with_operand_alike pushed s [] f g e = refl
with_operand_alike pushed s (v ∷ rest) f g e = e v rest
with_operand_alike (number n) s words f g e = e n words
with_operand_alike (variable x) s words f g e = e _ words

with_operands_alike : (os : List Operand) (s : Situation) (words : List ℕ) (f g : List ℕ → List ℕ → Next)
    → ((vs rest : List ℕ) → f vs rest ≡ g vs rest) → with_operands os s words f ≡ with_operands os s words g
with_operands_alike [] s words f g e = e [] words
with_operands_alike (o ∷ os) s words f g e = with_operands_alike os s words _ _
    (λ vs rest. with_operand_alike o s rest _ _ (λ v left. e (v ∷ vs) left))

module _ (p : ProgramOf) (full r : ℕ) (callers : List Caller) where
  -- a state with a word that was put aside, or none
  abbrev at_word : Option ℕ → ℕ → List ℕ → Situation → ItemState
  at_word w pc words s =
      record { routine = r; place = pc; stack = words; put_aside = w; callers = callers; situation = s }

  branch_alike : (b : Bool) (t : ℕ) (v pc : ℕ) (words : List ℕ) (s : Situation) (rest : List ℕ)
      → branch b t rest (at_word None pc words s) ≡ branch b t rest (at_word (Some v) pc words s)
  branch_alike true t v pc words s rest = refl
  branch_alike false t v pc words s rest = refl

  decided_alike : (c : Comes Bool) (when : Bool) (t v pc : ℕ) (words : List ℕ) (rest : List ℕ)
      → after_part c (λ so last. branch (agrees so when) t rest (at_word None pc words last))
      ≡ after_part c (λ so last. branch (agrees so when) t rest (at_word (Some v) pc words last))
  decided_alike (to so last) when t v pc words rest = branch_alike (agrees so when) t v pc words last rest
  decided_alike (over outcome) when t v pc words rest = refl

  -- a jump, if what it leads to comes to the same
  jumps_alike : (b : Bool) (n t v : ℕ) (words : List ℕ) (s : Situation) (o : Outcome)
      → (exec p full n (at_word None t words s) ≡ Some o → exec p full n (at_word (Some v) t words s) ≡ Some o)
      → from (if b then goes (at_word None t words s) else stuck) (exec p full n) ≡ Some o
      → from (if b then goes (at_word (Some v) t words s) else stuck) (exec p full n) ≡ Some o
  jumps_alike true n t v words s o h e = h e
  jumps_alike false n t v words s o h e = e

  -- what a run comes to with no word put aside, it comes to with one: from an item on, if from other places with
  -- one item less
  item_with_word : (v n pc : ℕ) (words : List ℕ) (s : Situation) (o : Outcome)
      → ((t : ℕ) → exec p full n (at_word None t words s) ≡ Some o
      → exec p full n (at_word (Some v) t words s) ≡ Some o)
      → (i : Option Item) → from (act p full i (at_word None pc words s)) (exec p full n) ≡ Some o
      → from (act p full i (at_word (Some v) pc words s)) (exec p full n) ≡ Some o
  item_with_word v n pc words s o on None e = e
  item_with_word v n pc words s o on (Some (items.keep x)) e = kept words e
    where
      kept : (words : List ℕ)
          → from (act p full (Some (items.keep x)) (at_word None pc words s)) (exec p full n) ≡ Some o
          → from (act p full (Some (items.keep x)) (at_word (Some v) pc words s)) (exec p full n) ≡ Some o
      kept [] e = e
      kept (w ∷ ws) e = e
  item_with_word v n pc words s o on (Some items.first_equal) e = go words e
    where
      go : (words : List ℕ)
          → from (act p full (Some items.first_equal) (at_word None pc words s)) (exec p full n) ≡ Some o
          → from (act p full (Some items.first_equal) (at_word (Some v) pc words s)) (exec p full n) ≡ Some o
      go [] e = e
      go (y ∷ []) e = e
      go (y ∷ x ∷ ws) e = e
  item_with_word v n pc words s o on (Some items.also_equal) e = go words e
    where
      go : (words : List ℕ)
          → from (act p full (Some items.also_equal) (at_word None pc words s)) (exec p full n) ≡ Some o
          → from (act p full (Some items.also_equal) (at_word (Some v) pc words s)) (exec p full n) ≡ Some o
      go [] e = e
      go (y ∷ []) e = e
      go (y ∷ f ∷ []) e = e
      go (y ∷ f ∷ x ∷ ws) e = e
  item_with_word v n pc words s o on (Some items.drop_below) e = go words e
    where
      go : (words : List ℕ)
          → from (act p full (Some items.drop_below) (at_word None pc words s)) (exec p full n) ≡ Some o
          → from (act p full (Some items.drop_below) (at_word (Some v) pc words s)) (exec p full n) ≡ Some o
      go [] e = e
      go (f ∷ []) e = e
      go (f ∷ x ∷ ws) e = e
  item_with_word v n pc words s o on (Some (items.branch test os when t)) e =
      subst (λ x. from x (exec p full n) ≡ Some o)
      (with_operands_alike os s words _ _
      (λ vs rest. branch_alike (agrees (holds test vs) when) t v pc words s rest)) e
  item_with_word v n pc words s o on (Some (items.is_in a b when t)) e =
      subst (λ x. from x (exec p full n) ≡ Some o)
      (with_operand_alike b s words _ _ (λ y rest. with_operand_alike a s rest _ _
      (λ x left. decided_alike (stands_in p x y s) when t v pc words left))) e
  item_with_word v n pc words s o on (Some (items.has a k when t)) e =
      subst (λ x. from x (exec p full n) ≡ Some o)
      (with_operand_alike a s words _ _
      (λ x left. decided_alike (tested_attribute p x k s) when t v pc words left)) e
  item_with_word v n pc words s o on (Some (items.provides a k when t)) e =
      subst (λ x. from x (exec p full n) ≡ Some o)
      (with_operand_alike a s words _ _
      (λ x left. decided_alike (is_provided p x k s) when t v pc words left)) e
  item_with_word v n pc words s o on (Some (items.first_object x t)) e =
      subst (λ x. from x (exec p full n) ≡ Some o)
      (decided_alike (begins_objects p x s) false t v pc words words) e
  item_with_word v n pc words s o on (Some (items.next_object x t)) e =
      subst (λ x. from x (exec p full n) ≡ Some o)
      (decided_alike (steps_object p x s) false t v pc words words) e
  item_with_word v n pc words s o on (Some (items.operate_aside op a d)) e = absurd (cc)
  item_with_word v n pc words s o on (Some (items.entry_aside width a d)) e = absurd (cc)
  item_with_word v n pc words s o on (Some (items.assign_entry_aside width a i w d)) e = absurd (cc)
  item_with_word v n pc words s o on (Some (items.call_aside r os d)) e = absurd (cc)
  item_with_word v n pc words s o on (Some (items.case test ns when t)) e = absurd (cc)
  item_with_word v n pc words s o on (Some (items.jump t)) e =
      jumps_alike (nat_lt pc t) n t v words s o (on t) e
  item_with_word v n pc words s o on (Some i) e = e

  with_word : (v n pc : ℕ) (words : List ℕ) (s : Situation) (o : Outcome)
      → exec p full n (at_word None pc words s) ≡ Some o → exec p full n (at_word (Some v) pc words s) ≡ Some o
  with_word v zero pc words s o e = e
  with_word v (suc n) pc words s o e =
      item_with_word v n pc words s o (λ t h. with_word v n t words s o h)
      (slice_get (routine_items (routine_at p.routines r)) pc) e

module _ (now : Running) where
  open now use {p, full, routine, callers}

  -- a word is put aside
  abbrev pub has_word : ℕ → ℕ → Situation → ItemState
  has_word v pc s =
      record { routine = routine; place = pc; stack = []; put_aside = Some v; callers = callers; situation = s }

  does_with_word : (v pc : ℕ) (s : Situation) (o : Outcome) → RunsTo p full (stands now pc [] s) o
      → RunsTo p full (goes (has_word v pc s)) o
  does_with_word v pc s o d =
      record { count = d.count; comes = with_word p full routine callers v d.count pc [] s o d.comes }

  -- what a run does with no such word, it does with one
  pub with_it : {A : Type 0} {s : Situation} {n : ℕ} {c : Comes A} {behind : A → Situation → Next} (v pc : ℕ)
      → Leads now s n (stands now pc [] s) c behind → Leads now s n (goes (has_word v pc s)) c behind
  with_it {s = s} v pc l = record { does = λ k le d. does_with_word v pc s _ (l.does k le d) }

  -- a test of the word leads to one of two places
  pub tests_word : {A : Type 0} {s : Situation} {n : ℕ} {c : Comes A} {behind : A → Situation → Next}
      (v pc q t : ℕ) (test : Test) (ns : List ℕ) (when : Bool)
      → slice_get (code now) pc ≡ Some (items.case test ns when t) → pc < t → pc + 1 ≡ q
      → Leads now s n (goes (has_word v (if agrees (holds test (v ∷ ns)) when then t else q) s)) c behind
      → Leads now s n (goes (has_word v pc s)) c behind
  tests_word {s = s} v pc q t test ns when h lt is l =
      record {
        does = λ k le d. steps_on p full (has_word v pc s) _ _ (ap (λ i. act p full i (has_word v pc s)) h ∙ goes_there)
            (l.does k le d);
      }
    where
      by : (b : Bool) → stack.by_case b t (has_word v pc s) ≡ goes (has_word v (if b then t else q) s)
      by true = ap (λ c. if c then goes (has_word v t s) else stuck) (lt-ltb pc t lt)
      by false = ap (λ m. goes (has_word v m s)) is

      goes_there : act p full (Some (items.case test ns when t)) (has_word v pc s)
          ≡ goes (has_word v (if agrees (holds test (v ∷ ns)) when then t else q) s)
      goes_there = by (agrees (holds test (v ∷ ns)) when)

  -- a jump keeps it
  pub jumps_word : {A : Type 0} {s : Situation} {n : ℕ} {c : Comes A} {behind : A → Situation → Next} (v pc t : ℕ)
      → slice_get (code now) pc ≡ Some (items.jump t) → pc < t → Leads now s n (goes (has_word v t s)) c behind
      → Leads now s n (goes (has_word v pc s)) c behind
  jumps_word {s = s} v pc t h lt l =
      record {
        does = λ k le d. steps_on p full (has_word v pc s) _ _ (ap (λ i. act p full i (has_word v pc s)) h
            ∙ ap (λ b. if b then goes (has_word v t s) else stuck) (lt-ltb pc t lt))
            (l.does k le d);
      }
