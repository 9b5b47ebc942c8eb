-- Assignments and steps of variables.
use Rattle.std.proofs.Common.{◌≡◌, ℕ, ◌+◌, ◌≤◌, List, ◌∷◌, length, Some, refl, ap, arith}
use Rattle.std.specs.Prelude.{if◌then◌else◌, slice_get}
use Rattle.std.proofs.lemmas.Bool.{le-leb}
use Rattle.syntax_trees.specs.declared.tree.Step.{Step}
use Rattle.meaning.specs.declared.resolved.Variable.{Variable}
use Rattle.meaning.specs.Resolved.{Value}
use Rattle.meaning.specs.Resolved as source
use Rattle.meaning.specs.Accepted.{need_of}
use Rattle.meaning.specs.World.{Situation, to, Part, ◌>>=◌, give, write_variable, value_in, with_value}
use Rattle.meaning.specs.Meaning.{stepped, evaluate}
use Rattle.code_drafts.specs.Items.{pushed, variable, Destination, push, into, aside, nowhere, value_count}
use Rattle.code_drafts.specs.Items.{after_items, kept_items, value_items}
use Rattle.code_drafts.specs.Items as items
use Rattle.code_drafts.proofs.Counts.{value_length}
use Rattle.code_items.specs.Stack.{stuck, act}
use Rattle.code_items.proofs.Acts.{keeps_give, keeps_write}
use Rattle.code_items.proofs.Running.{steps_on, Running, code, setting}
use Rattle.code_items.proofs.Standing.{HasAt, split}
use Rattle.code_items.proofs.Needs.{some_needed_of}
use Rattle.code_items.proofs.Leads.{Leads, on, then_to, here, stands, lands, at_place}
use Rattle.code_items.proofs.Steps.{one, steps, by_word}
use Rattle.code_items.proofs.Evaluated.{ValueOk}

module _ (now : Running) where
  open now use {p, full}

  pub step_before_ok : (op : Step) (x : Variable) → ValueOk now (source.step_before op x)
  step_before_ok op x = record {
    value = λ s n pc q words dest has le. at_place now (λ y. lands now dest y words) (pc + 1) q has.1
        (stepped_to s n pc words dest has.0 (omega (arith, le)));
    branch = λ s n pc t q words when has before le. by_word now _ (pc + 1) t q words when
        (stepped_to s n pc words push has.0 (omega (arith, le))) has.1.0 (omega (arith, before, has.1.1)) has.1.1;
  }
    where
      stepped_to : (s : Situation) (n pc : ℕ) (words : List ℕ) (dest : Destination) → slice_get (code now) pc
          ≡ Some (items.step op x dest) → length words + 1 ≤ 48
          → Leads now s n (stands now pc words s) (evaluate (setting now) (source.step_before op x) s)
          (lands now dest (pc + 1) words)
      stepped_to s n pc words dest h le =
          one now pc words dest (items.step op x dest) (evaluate (setting now) (source.step_before op x)) words h refl
          (λ s. keeps_write full x _ s) le

  pub step_after_ok : (x : Variable) (op : Step) → ValueOk now (source.step_after x op)
  step_after_ok x op = record {
    value = λ s n pc q words dest has le. after_does s n pc q words dest has (omega (arith, le));
    branch = λ s n pc t q words when has before le. by_word now _ (pc + 1 + 1) t q words when
        (pushes s n pc words has.0 has.1.0 (omega (arith, le))) has.1.1.0
        (omega (arith, before, has.1.1.1)) has.1.1.1;
  }
    where
      word : ℕ → Situation → Situation
      word v s = with_value x (stepped op v) s

      -- the old word is pushed, and the variable is stepped
      pushes : (s : Situation) (n pc : ℕ) (words : List ℕ) → slice_get (code now) pc
          ≡ Some (items.move (variable x) push) → slice_get (code now) (pc + 1) ≡ Some (items.step op x nowhere)
          → length words + 1 ≤ 48
          → Leads now s n (stands now pc words s) (to (value_in x s) (word (value_in x s) s))
          (lands now push (pc + 1 + 1) words)
      pushes s n pc words h0 h1 le =
          steps now pc (pc + 1) words (value_in x s ∷ words) (items.move (variable x) push) h0
          (ap (λ c. if c then stands now (pc + 1) (value_in x s ∷ words) s else stuck)
          (le-leb _ _ (omega (arith, le))))
          (record {
            does = λ k le d. steps_on p full (here now (pc + 1) (value_in x s ∷ words) s) _ _
                (ap (λ i. act p full i (here now (pc + 1) (value_in x s ∷ words) s)) h1)
                (d (value_in x s) (word (value_in x s) s) refl (keeps_write full x _ s));
          })

      after_does : (s : Situation) (n pc q : ℕ) (words : List ℕ) (dest : Destination)
          → HasAt (code now) pc (after_items x op dest) q → length words + 1 ≤ 48
          → Leads now s n (stands now pc words s) (evaluate (setting now) (source.step_after x op) s)
          (lands now dest q words)
      after_does s n pc q words push has le = at_place now (λ y. lands now push y words) (pc + 1 + 1) q has.1.1
          (pushes s n pc words has.0 has.1.0 le)
      after_does s n pc q words nowhere has le =
          at_place now (λ y. lands now nowhere y words) (pc + 1) q has.1
          (record {
            does = λ k le d. steps_on p full (here now pc words s) _ _
                (ap (λ i. act p full i (here now pc words s)) has.0)
                (d (value_in x s) (word (value_in x s) s) refl (keeps_write full x _ s));
          })
      after_does s n pc q words (into y) has le =
          at_place now (λ z. lands now (into y) z words) (pc + 1 + 1 + 1) q has.1.1.1
          (then_to now _ (pushes s n pc words has.0 has.1.0 le)
          (λ v last _. one now (pc + 1 + 1) words (into y) (items.move pushed (into y)) (give v)
          (v ∷ words) has.1.1.0 refl (keeps_give full v) le))
      after_does s n pc q words aside has le =
          at_place now (λ z. lands now aside z words) (pc + 1 + 1 + 1) q has.1.1.1
          (then_to now _ (pushes s n pc words has.0 has.1.0 le)
          (λ v last _. one now (pc + 1 + 1) words aside (items.move pushed aside) (give v)
          (v ∷ words) has.1.1.0 refl (keeps_give full v) le))

  pub assign_ok : (x : Variable) (v : Value) → ValueOk now v → ValueOk now (source.assign x v)
  assign_ok x v ok = record {
    value = λ s n pc q words dest has le. assigned s n pc q words dest has (omega (arith, le));
    branch = λ s n pc t q words when has before le.
        let m = pc + value_count v push in
        let h = split (code now) pc (value_items pc v push) _ q (value_count v push) (value_length v push pc) has in
        by_word now _ (m + 1) t q words when (topmost s n pc m words h.0 h.1.0 (omega (arith, le))) h.1.1.0
        (omega (arith, before, h.1.1.1)) h.1.1.1;
  }
    where
      word : ℕ → Part ℕ
      word w = write_variable x w >>= λ _. give w

      some : 1 ≤ need_of v
      some = some_needed_of v

      topmost : (s : Situation) (n pc m : ℕ) (words : List ℕ) → HasAt (code now) pc (value_items pc v push) m
          → slice_get (code now) m ≡ Some (items.keep x) → length words + need_of v ≤ 48
          → Leads now s n (stands now pc words s) (evaluate (setting now) (source.assign x v) s)
          (lands now push (m + 1) words)
      topmost s n pc m words has h le =
          on now (evaluate (setting now) v) word (ok.value s n pc m words push has le)
          (λ w s1 _. one now m words push (items.keep x) (word w) (w ∷ words) h refl (λ s. keeps_write full x w s)
          (omega (arith, le, some)))

      assigned : (s : Situation) (n pc q : ℕ) (words : List ℕ) (dest : Destination)
          → HasAt (code now) pc (kept_items x dest (value_items pc v (into x)) (value_items pc v push)) q
          → length words + need_of v ≤ 48
          → Leads now s n (stands now pc words s) (evaluate (setting now) (source.assign x v) s)
          (lands now dest q words)
      assigned s n pc q words nowhere has le =
          on now (evaluate (setting now) v) word (ok.value s n pc q words (into x) has le)
          (λ w s1 _. record { does = λ k le d. d w (with_value x w s1) refl (keeps_write full x w s1) })
      assigned s n pc q words push has le =
          let m = pc + value_count v push in
          let h = split (code now) pc (value_items pc v push) _ q (value_count v push) (value_length v push pc) has in
          at_place now (λ y. lands now push y words) (m + 1) q h.1.1 (topmost s n pc m words h.0 h.1.0 le)
      assigned s n pc q words (into y) has le =
          let m = pc + value_count v push in
          let h = split (code now) pc (value_items pc v push) _ q (value_count v push) (value_length v push pc) has in
          at_place now (λ z. lands now (into y) z words) (m + 1 + 1) q h.1.1.1
          (then_to now _ (topmost s n pc m words h.0 h.1.0 le)
          (λ w last _. one now (m + 1) words (into y) (items.move pushed (into y)) (give w)
          (w ∷ words) h.1.1.0 refl (keeps_give full w) (omega (arith, le, some))))
      assigned s n pc q words aside has le =
          let m = pc + value_count v push in
          let h = split (code now) pc (value_items pc v push) _ q (value_count v push) (value_length v push pc) has in
          at_place now (λ z. lands now aside z words) (m + 1 + 1) q h.1.1.1
          (then_to now _ (topmost s n pc m words h.0 h.1.0 le)
          (λ w last _. one now (m + 1) words aside (items.move pushed aside) (give w)
          (w ∷ words) h.1.1.0 refl (keeps_give full w) (omega (arith, le, some))))
