-- `&&` and `||`: the second operand is passed over where the first decides.
use Rattle.std.proofs.Common.{◌≡◌, ℕ, ◌+◌, ◌≤◌, List, [], ◌∷◌, length, Bool, true, false, refl, ap, arith}
use Rattle.std.specs.Prelude.{if◌then◌else◌}
use Rattle.syntax_trees.specs.declared.tree.Binary.{Binary}
use Rattle.syntax_trees.specs.declared.tree.Binary.TheVariants as binaries
use Rattle.meaning.specs.Resolved.{Value}
use Rattle.meaning.specs.Resolved as source
use Rattle.meaning.specs.Accepted.{need_of}
use Rattle.meaning.specs.World.{Situation, to, ◌>>=◌, give}
use Rattle.meaning.specs.Meaning.{truth, is_true, evaluate}
use Rattle.code_drafts.specs.Items.{agrees, branch_count, branch_items}
use Rattle.code_drafts.proofs.Counts.{branch_length}
use Rattle.code_items.proofs.Running.{Running, code, setting}
use Rattle.code_items.proofs.Standing.{HasAt, split, long}
use Rattle.code_items.proofs.Needs.{some_needed}
use Rattle.code_items.proofs.Conditions.{truth_back}
use Rattle.code_items.proofs.Leads.{Leads, on, stands, goes_by}
use Rattle.code_items.proofs.Steps.{decided}
use Rattle.code_items.proofs.Truths.{and_condition, or_condition, Branches, condition}
use Rattle.code_items.proofs.Evaluated.{ValueOk}
use Rattle.code_items.proofs.Operations.{operation_ok}

module _ (now : Running) where
  -- the second operand decides
  second_branches : (b : Value) → ValueOk now b → (s : Situation) (n pc t q : ℕ) (words : List ℕ) (when : Bool)
      → HasAt (code now) pc (branch_items pc b when t) q → q ≤ t → length words + need_of b ≤ 48
      → Leads now s n (stands now pc words s) ((evaluate (setting now) b >>= λ y. give (truth (is_true y))) s)
      (goes_by now when t q words)
  second_branches b ok s n pc t q words when has before le =
      on now (evaluate (setting now) b) (λ y. give (truth (is_true y))) (ok.branch s n pc t q words when has before le)
      (λ y last _.
      decided now (truth (is_true y)) when (agrees (is_true y) when) t q q words
      (ap (λ c. agrees c when) (truth_back (is_true y))) refl)

  and_branches : (a b : Value) → ValueOk now a → ValueOk now b → Branches now (source.binary binaries.AndAlso a b)
      (λ at when t. branch_items at (source.binary binaries.AndAlso a b) when t)
  and_branches a b oka okb s n pc t q words when has before le =
      let na = branch_count a false in
      let nb = branch_count b when in
      let skip = if when then pc + na + nb else t in
      let m = pc + na in
      let h = split (code now) pc (branch_items pc a false skip) (branch_items m b when t) q na
      (branch_length a false pc skip) has in
      let e = long (code now) m (branch_items m b when t) q nb (branch_length b when m t) h.1 in
      on now (evaluate (setting now) a) _
      (oka.branch s n pc skip m words false h.0
      (ahead when t (pc + na + nb) m (omega arith) (omega (arith, e, before))) (omega (arith, le)))
      (λ x s1 e1. go s1 m (is_true x) when h.1 e before)
    where
      ahead : (when : Bool) (t e m : ℕ) → m ≤ e → m ≤ t → m ≤ (if when then e else t)
      ahead true t e m h k = h
      ahead false t e m h k = k

      skipped : (when : Bool) (s1 : Situation) (e : ℕ) → e
          ≡ q → Leads now s1 n (stands now (if when then e else t) words s1) (to 0 s1) (goes_by now when t q words)
      skipped true s1 e is = decided now 0 true false t e q words refl is
      skipped false s1 e is = decided now 0 false true t q q words refl refl

      go : (s1 : Situation) (m : ℕ) (c when : Bool) → HasAt (code now) m (branch_items m b when t) q
          → m + branch_count b when ≡ q → q ≤ t
          → Leads now s1 n (stands now (if agrees c false then (if when then m + branch_count b when else t) else m)
          words
          s1) ((if c then (evaluate (setting now) b >>= λ y. give (truth (is_true y))) else give 0) s1)
          (goes_by now when t q words)
      go s1 m true when h e before = second_branches b okb s1 n m t q words when h before (omega (arith, le))
      go s1 m false when h e before = skipped when s1 (m + branch_count b when) e

  or_branches : (a b : Value) → ValueOk now a → ValueOk now b → Branches now (source.binary binaries.OrElse a b)
      (λ at when t. branch_items at (source.binary binaries.OrElse a b) when t)
  or_branches a b oka okb s n pc t q words when has before le =
      let na = branch_count a true in
      let nb = branch_count b when in
      let skip = if when then t else pc + na + nb in
      let m = pc + na in
      let h = split (code now) pc (branch_items pc a true skip) (branch_items m b when t) q na
      (branch_length a true pc skip) has in
      let e = long (code now) m (branch_items m b when t) q nb (branch_length b when m t) h.1 in
      on now (evaluate (setting now) a) _
      (oka.branch s n pc skip m words true h.0
      (ahead when t (pc + na + nb) m (omega arith) (omega (arith, e, before))) (omega (arith, le)))
      (λ x s1 e1. go s1 m (is_true x) when h.1 e before)
    where
      ahead : (when : Bool) (t e m : ℕ) → m ≤ e → m ≤ t → m ≤ (if when then t else e)
      ahead true t e m h k = k
      ahead false t e m h k = h

      skipped : (when : Bool) (s1 : Situation) (e : ℕ) → e
          ≡ q → Leads now s1 n (stands now (if when then t else e) words s1) (to 1 s1) (goes_by now when t q words)
      skipped true s1 e is = decided now 1 true true t q q words refl refl
      skipped false s1 e is = decided now 1 false false t e q words refl is

      go : (s1 : Situation) (m : ℕ) (c when : Bool) → HasAt (code now) m (branch_items m b when t) q
          → m + branch_count b when ≡ q → q ≤ t
          → Leads now s1 n (stands now (if agrees c true then (if when then t else m + branch_count b when) else m)
          words
          s1) ((if c then give 1 else (evaluate (setting now) b >>= λ y. give (truth (is_true y)))) s1)
          (goes_by now when t q words)
      go s1 m true when h e before = skipped when s1 (m + branch_count b when) e
      go s1 m false when h e before = second_branches b okb s1 n m t q words when h before (omega (arith, le))

  pub binary_ok : (op : Binary) (a b : Value) → ValueOk now a → ValueOk now b → ValueOk now (source.binary op a b)
  binary_ok binaries.AndAlso a b oka okb = record {
    value = λ s n pc q words dest has le.
        condition now (source.binary binaries.AndAlso a b) (branch_count a false + branch_count b true)
        (λ at when t. branch_items at (source.binary binaries.AndAlso a b) when t)
        (λ at t. branch_length (source.binary binaries.AndAlso a b) true at t) (and_condition now a b)
        (and_branches a b oka okb) (some_needed 0 (need_of a ∷ need_of b ∷ [])) s n pc q words dest has le;
    branch = and_branches a b oka okb;
  }
  binary_ok binaries.OrElse a b oka okb = record {
    value = λ s n pc q words dest has le.
        condition now (source.binary binaries.OrElse a b) (branch_count a true + branch_count b true)
        (λ at when t. branch_items at (source.binary binaries.OrElse a b) when t)
        (λ at t. branch_length (source.binary binaries.OrElse a b) true at t) (or_condition now a b)
        (or_branches a b oka okb) (some_needed 0 (need_of a ∷ need_of b ∷ [])) s n pc q words dest has le;
    branch = or_branches a b oka okb;
  }
  binary_ok op a b oka okb = operation_ok now op a b oka okb (λ at dest. refl) (λ at t when. refl) (λ s. refl)
