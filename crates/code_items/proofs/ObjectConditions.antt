-- Conditions on objects: each is told by one item.
use Rattle.std.proofs.Common.{◌≡◌, ℕ, ◌+◌, ◌≤◌, List, [], ◌∷◌, ◌++◌, length, Some, Bool, true, refl, sym, ◌∙◌, subst}
use Rattle.std.proofs.Common.{arith, length-append}
use Rattle.std.specs.Prelude.{◌==◌, not, if◌then◌else◌, is_some}
use Rattle.syntax_trees.specs.declared.tree.Containment.{Containment}
use Rattle.syntax_trees.specs.declared.tree.Relative.TheVariants as relatives
use Rattle.meaning.specs.Limits.{operands}
use Rattle.meaning.specs.Accepted.{need_of}
use Rattle.meaning.specs.Resolved.{Value, none}
use Rattle.meaning.specs.Resolved as source
use Rattle.meaning.specs.World.{Situation, to, Part, ◌>>=◌, give, relative_of}
use Rattle.meaning.specs.World as world
use Rattle.meaning.specs.Meaning.{truth, is_true, contains, evaluate, test_object}
use Rattle.code_drafts.specs.Items.{Item, Operand, Destination, alone, left_of, containment_when, agrees, truth_items}
use Rattle.code_drafts.specs.Items.{value_items, operand_count, alone_items, branch_items}
use Rattle.code_drafts.specs.Items as items
use Rattle.code_drafts.proofs.Counts.{alone_length, branch_length}
use Rattle.code_items.specs.Stack.{with_operand, act, stands_in, tested_attribute, is_provided, ItemState}
use Rattle.code_items.specs.Stack as stack
use Rattle.code_items.proofs.Acts.{Keeps, came, bound_bound, bound_alike}
use Rattle.code_items.proofs.ObjectParts.{keeps_stands_in, keeps_attribute, keeps_is_provided}
use Rattle.code_items.proofs.Conditions.{truth_truth, contains_asks, has_asks}
use Rattle.code_items.proofs.Needs.{some_needed}
use Rattle.code_items.proofs.Standing.{HasAt, split}
use Rattle.code_items.proofs.Held.{onto, with_held}
use Rattle.code_items.proofs.Running.{Running, code, setting}
use Rattle.code_items.proofs.Leads.{on, as_part, here, goes_by}
use Rattle.code_items.proofs.Steps.{tells}
use Rattle.code_items.proofs.Truths.{Branches, condition}
use Rattle.code_items.proofs.Evaluated.{ValueOk, operand_held, operand_does, two_operands}

module _ (now : Running) where
  open now use {p, full}

  -- the word of a condition that a part tells
  abbrev worded : Part Bool → (Bool → Bool) → Part ℕ
  worded f turned = f >>= λ so. give (truth (turned so))

  -- it is 1 or 0
  is_truth : (f : Part Bool) (turned : Bool → Bool) (s last : Situation) (x : ℕ) → worded f turned s ≡ to x last
      → truth (is_true x) ≡ x
  is_truth f turned s last x e =
      let c = came (f s) (λ so. give (truth (turned so))) x last e in
      let is : truth (turned c.first) ≡ x = cc in truth_truth (turned c.first) x is

  -- an item that takes one operand, and tells a condition by its word
  module _ (v whole : Value) (ok : ValueOk now v) (i : Operand → Bool → ℕ → Item) (f : ℕ → Part Bool)
      (turned : Bool → Bool) (wanted : Bool → Bool)
      (asks : (so when : Bool) → agrees (turned so) when ≡ agrees so (wanted when))
      (acts : (o : Operand) (when : Bool) (t : ℕ) (s : ItemState) → act p full (Some (i o when t)) s
      ≡ with_operand o s.situation s.stack (λ x rest. stack.decides (f x) when t rest s))
      (keeps : (x : ℕ) → Keeps full (f x))
      (means : (s : Situation) → (evaluate (setting now) v >>= λ x. worded (f x) turned) s
      ≡ evaluate (setting now) whole s)
      (needs : operands 0 (need_of v ∷ []) ≡ need_of whole) where
    abbrev told : ℕ → Bool → ℕ → List Item
    told at when t = alone_items at v ++ i (alone v) (wanted when) t ∷ []

    one_branches : Branches now whole told
    one_branches s n pc t q words when has before le =
        let m = pc + operand_count v (alone v) in
        let h = split (code now) pc (alone_items pc v) _ q (operand_count v (alone v)) (alone_length v pc) has in
        as_part now _ _ (means s)
        (on now (evaluate (setting now) v) _
        (operand_does now v none ok s n pc m words h.0 (omega (arith, le, needs))) (λ x s1 e1.
        tells now m t q (onto (alone v) x words) words (i (alone v) (wanted when) t) (f x) turned (wanted when) when
        h.1.0
        (acts (alone v) (wanted when) t (here now m (onto (alone v) x words) s1)
        ∙ with_held (alone v) x s1 words
        (λ y rest. stack.decides (f y) (wanted when) t rest (here now m (onto (alone v) x words) s1))
        (operand_held now v none s s1 x e1))
        (keeps x) (omega (arith, before, h.1.1)) h.1.1 (λ so. asks so when)))

    one_truth : (s last : Situation) (x : ℕ) → evaluate (setting now) whole s ≡ to x last → truth (is_true x) ≡ x
    one_truth s last x e =
        let c = came (evaluate (setting now) v s) (λ y. worded (f y) turned) x last (means s ∙ e) in
        is_truth (f c.first) turned c.between last x c.then_is

    one_length : (at t : ℕ) → length (told at true t) ≡ operand_count v (alone v) + 1
    one_length at t =
        omega (arith, alone_length v at, length-append (alone_items at v) (i (alone v) (wanted true) t ∷ []))

    one_ok : ((at : ℕ) (dest : Destination) → value_items at whole dest
        ≡ truth_items at (operand_count v (alone v) + 1) dest (λ t. told at true t))
        → ((at t : ℕ) (when : Bool) → branch_items at whole when t ≡ told at when t) → ValueOk now whole
    one_ok ev eb = record {
      value = λ s n pc q words dest has le. condition now whole (operand_count v (alone v) + 1) told one_length
          one_truth one_branches (subst (λ need. 1 ≤ need) needs (some_needed 0 (need_of v ∷ []))) s n pc q words dest
          (subst (λ l. HasAt (code now) pc l q) (ev pc dest) has) le;
      branch = λ s n pc t q words when has before le.
          one_branches s n pc t q words when (subst (λ l. HasAt (code now) pc l q) (eb pc t when) has) before le;
    }

  pub has_ok : (positive : Bool) (v : Value) (a : ℕ) → ValueOk now v → ValueOk now (source.has positive v a)
  has_ok positive v a ok =
      one_ok v (source.has positive v a) ok (λ o when t. items.has o a when t) (λ o. tested_attribute p o a) turned
      (agrees positive) (has_asks positive) (λ o when t s. refl) (λ o. keeps_attribute p full o a)
      (λ s. bound_alike (evaluate (setting now) v s) _ _ (λ o s1.
      sym (bound_bound (test_object (setting now) o s1) (λ _. world.has_attribute o a)
      (λ so. give (truth (turned so)))))) refl (λ at dest. refl) (λ at t when. refl)
    where
      turned : Bool → Bool
      turned so = if positive then so else not so

  pub provides_ok : (v : Value) (k : ℕ) → ValueOk now v → ValueOk now (source.provides v k)
  provides_ok v k ok =
      one_ok v (source.provides v k) ok (λ o when t. items.provides o k when t) (λ o. is_provided p o k) (λ so. so)
      (λ when. when) (λ so when. refl) (λ o when t s. refl) (λ o. keeps_is_provided p full o k)
      (λ s. bound_alike (evaluate (setting now) v s) _ _ (λ o s1.
      sym (bound_bound (test_object (setting now) o s1)
      (λ _. world.words_provided o k >>= λ words. give (is_some words)) (λ so. give (truth so)))))
      refl (λ at dest. refl) (λ at t when. refl)

  -- whether an object stands in another

  contained_means : (op : Containment) (a b : Value) (s : Situation)
      → (evaluate (setting now) a >>= λ o. (evaluate (setting now) b >>= λ x. worded (stands_in p o x) (contains op))) s
      ≡ evaluate (setting now) (source.contained op a b) s
  contained_means op a b s =
      bound_alike (evaluate (setting now) a s) _ _ (λ o s1.
      bound_alike (evaluate (setting now) b s1) _ _ (λ x s2.
      sym (bound_bound (test_object (setting now) o s2)
      (λ _. relative_of relatives.Parent o >>= λ parent. give (parent == x)) (λ so. give (truth (contains op so))))))

  contained_branches : (op : Containment) (a b : Value) → ValueOk now a → ValueOk now b
      → Branches now (source.contained op a b) (λ at when t. branch_items at (source.contained op a b) when t)
  contained_branches op a b oka okb s n pc t q words when has before le =
      let oa = left_of a b in
      let ob = alone b in
      let w = containment_when op when in
      let m = pc + operand_count a oa + operand_count b ob in
      as_part now _ _ (contained_means op a b s)
      (two_operands now {behind = goes_by now when t q words} a b oka okb s n pc q words
      (items.is_in oa ob w t ∷ []) (λ o x. worded (stands_in p o x) (contains op)) has le (λ x y s2 h held.
      let there : ItemState = here now m (onto ob y (onto oa x words)) s2 in
      tells now m t q (onto ob y (onto oa x words)) words (items.is_in oa ob w t) (stands_in p x y) (contains op) w
      when h.0
      (with_held ob y s2 (onto oa x words)
      (λ z rest. with_operand oa s2 rest (λ o left. stack.decides (stands_in p o z) w t left there)) held.1.0
      ∙ with_held oa x s2 words (λ o left. stack.decides (stands_in p o y) w t left there) held.0)
      (keeps_stands_in p full x y) (omega (arith, before, h.1)) h.1 (λ so. contains_asks op so when)))

  contained_truth : (op : Containment) (a b : Value) (s last : Situation) (x : ℕ)
      → evaluate (setting now) (source.contained op a b) s ≡ to x last → truth (is_true x) ≡ x
  contained_truth op a b s last x e =
      let c = came (evaluate (setting now) a s) _ x last (contained_means op a b s ∙ e) in
      let k = came (evaluate (setting now) b c.between)
      (λ y. worded (stands_in p c.first y) (contains op)) x last c.then_is in
      is_truth (stands_in p c.first k.first) (contains op) k.between last x k.then_is

  pub contained_ok : (op : Containment) (a b : Value) → ValueOk now a → ValueOk now b
      → ValueOk now (source.contained op a b)
  contained_ok op a b oka okb = record {
    value = λ s n pc q words dest has le.
        condition now (source.contained op a b) (operand_count a (left_of a b) + operand_count b (alone b) + 1)
        (λ at when t. branch_items at (source.contained op a b) when t)
        (λ at t. branch_length (source.contained op a b) true at t) (contained_truth op a b)
        (contained_branches op a b oka okb) (some_needed 0 (need_of a ∷ need_of b ∷ [])) s n pc q words dest has le;
    branch = contained_branches op a b oka okb;
  }
