-- Items that name only what is there, and parts of which they are made.
use Rattle.std.proofs.Common.{◌≡◌, ℕ, ◌+◌, ◌<◌, ◌≤◌, List, [], ◌∷◌, ◌++◌, length, Bool, true, false, refl, subst, arith}
use Rattle.std.specs.Prelude.{if◌then◌else◌}
use Rattle.std.specs.List.{All}
use Rattle.std.proofs.lemmas.List.Elements.{All-nil, All-cons, All-head, All-tail}
use Rattle.syntax_trees.specs.declared.tree.Comparison.{Comparison}
use Rattle.syntax_trees.specs.declared.tree.Comparison.TheVariants as comparisons
use Rattle.meaning.specs.declared.resolved.Variable.{Variable}
use Rattle.meaning.specs.Resolved.{Value, Values, none, more, ProgramOf}
use Rattle.meaning.specs.Resolved as source
use Rattle.meaning.specs.Accepted.{IsVariable, IsValue, AreValues}
use Rattle.code_drafts.specs.Items.{Item, Operand, pushed, number, variable, Destination, push, into, aside, nowhere}
use Rattle.code_drafts.specs.Items.{prefix_operand, operand_of, operands_of, if_pushed, change, branch_true}
use Rattle.code_drafts.specs.Items.{comparison_test, same_count, same_items}
use Rattle.code_drafts.specs.Items.{truth_count, kept_count, move_items, truth_items, after_items, kept_items}
use Rattle.code_drafts.specs.Items as items
use Rattle.code_items.specs.Laws.{IsOperand, IsDestination, IsItem, IsTestedValue}

-- what an item of a routine can name: what a program has, so many locals and so many items
pub record Bounds : Type 0 where
  pub p : ProgramOf
  pub locals : ℕ
  pub count : ℕ

module _ (here : Bounds) where
  open here use {p, locals, count}

  pub record Fine (xs : List Item) : Type 0 where
    pub all : All (IsItem p locals count) xs

  pub nothing : Fine []
  nothing = record { all = All-nil (IsItem p locals count) }

  pub first : (i : Item) (xs : List Item) → IsItem p locals count i → Fine xs → Fine (i ∷ xs)
  first i xs h hs = record { all = All-cons (IsItem p locals count) i xs h hs.all }

  pub joined : (xs ys : List Item) → Fine xs → Fine ys → Fine (xs ++ ys)
  joined [] ys hx hy = hy
  joined (x ∷ xs) ys hx hy = first x (xs ++ ys) (All-head (IsItem p locals count) x xs hx.all)
      (joined xs ys (record { all = All-tail (IsItem p locals count) x xs hx.all }) hy)

  pub last : (xs : List Item) (i : Item) → Fine xs → IsItem p locals count i → Fine (xs ++ i ∷ [])
  last xs i hx h = joined xs (i ∷ []) hx (first i [] h nothing)

  pub last_two : (xs : List Item) (i j : Item) → Fine xs → IsItem p locals count i → IsItem p locals count j
      → Fine (xs ++ i ∷ j ∷ [])
  last_two xs i j hx hi hj = joined xs (i ∷ j ∷ []) hx (first i (j ∷ []) hi (first j [] hj nothing))

  -- Operands

  pub operand_fine : (v : Value) (later : Values) → IsValue p locals v → IsOperand p locals (operand_of v later)
  operand_fine (source.read x) later h = go (change x later)
    where
      go : (b : Bool) → IsOperand p locals (if b then pushed else variable x)
      go true = tt
      go false = h
  operand_fine (source.prefixed op v) later h = go (operand_of v none)
    where
      go : (o : Operand) → IsOperand p locals (prefix_operand op o)
      go pushed = tt
      go (number n) = tt
      go (variable x) = tt
  operand_fine v later h = tt

  pub operands_fine : (vs : Values) → AreValues p locals vs → All (IsOperand p locals) (operands_of vs)
  operands_fine none h = All-nil (IsOperand p locals)
  operands_fine (more v vs) h = All-cons (IsOperand p locals) (operand_of v vs) (operands_of vs)
      (operand_fine v vs h.0) (operands_fine vs h.1)

  one_operand : (o : Operand) → IsOperand p locals o → All (IsOperand p locals) (o ∷ [])
  one_operand o h = All-cons (IsOperand p locals) o [] h (All-nil (IsOperand p locals))

  pub true_fine : (o : Operand) (when : Bool) (t : ℕ) → IsOperand p locals o → t < count
      → IsItem p locals count (branch_true o when t)
  true_fine o when t h lt = (one_operand o h, refl, lt)

  pub pushed_fine : (o : Operand) (xs : List Item) (n at : ℕ) → at + if_pushed o n 0 < count
      → (at + n < count → Fine xs)
      → Fine (if_pushed o xs [])
  pushed_fine pushed xs n at lt h = h lt
  pushed_fine (number k) xs n at lt h = nothing
  pushed_fine (variable x) xs n at lt h = nothing

  -- Parts

  pub moved_fine : (o : Operand) (d : Destination) → IsOperand p locals o → IsDestination p locals d
      → Fine (move_items o d)
  moved_fine o nowhere ho hd = nothing
  moved_fine o push ho hd = first _ _ (ho, hd) nothing
  moved_fine o (into x) ho hd = first _ _ (ho, hd) nothing
  moved_fine o aside ho hd = first _ _ (ho, hd) nothing

  pub truth_fine : (at n : ℕ) (d : Destination) (f : ℕ → List Item) → IsDestination p locals d
      → at + (n + truth_count d) < count → ((t : ℕ) → t < count → Fine (f t)) → Fine (truth_items at n d f)
  truth_fine at n nowhere f hd lt hf = hf (at + n) (omega (arith, lt))
  truth_fine at n push f hd lt hf = joined (f (at + n + 2)) _ (hf (at + n + 2) (omega (arith, lt)))
      (first _ _ (tt, tt) (first _ _ (omega (arith, lt)) (first _ _ (tt, tt) nothing)))
  truth_fine at n (into x) f hd lt hf = joined (f (at + n + 2)) _ (hf (at + n + 2) (omega (arith, lt)))
      (first _ _ (tt, hd) (first _ _ (omega (arith, lt)) (first _ _ (tt, hd) nothing)))
  truth_fine at n aside f hd lt hf = joined (f (at + n + 2)) _ (hf (at + n + 2) (omega (arith, lt)))
      (first _ _ (tt, hd) (first _ _ (omega (arith, lt)) (first _ _ (tt, hd) nothing)))

  pub after_fine : (x : Variable) (op : _) (d : Destination) → IsVariable p locals x → IsDestination p locals d
      → Fine (after_items x op d)
  after_fine x op nowhere hx hd = first _ _ (hx, tt) nothing
  after_fine x op push hx hd = first _ _ (hx, tt) (first _ _ (hx, tt) nothing)
  after_fine x op (into y) hx hd = first _ _ (hx, tt) (first _ _ (hx, tt) (first _ _ (tt, hd) nothing))
  after_fine x op aside hx hd = first _ _ (hx, tt) (first _ _ (hx, tt) (first _ _ (tt, hd) nothing))

  pub kept_fine : (x : Variable) (d : Destination) (xs ys : List Item) (n m at : ℕ) → IsVariable p locals x
      → IsDestination p locals d → at + kept_count d n m < count → (at + n < count → Fine xs)
      → (at + m < count → Fine ys) → Fine (kept_items x d xs ys)
  kept_fine x nowhere xs ys n m at hx hd lt hxs hys = hxs lt
  kept_fine x push xs ys n m at hx hd lt hxs hys = last ys _ (hys (omega (arith, lt))) hx
  kept_fine x (into y) xs ys n m at hx hd lt hxs hys = last_two ys _ _ (hys (omega (arith, lt))) hx (tt, hd)
  kept_fine x aside xs ys n m at hx hd lt hxs hys = last_two ys _ _ (hys (omega (arith, lt))) hx (tt, hd)

  -- a place that one of two conditions chooses
  pub chosen : (b : Bool) (x y : ℕ) → x < count → y < count → (if b then x else y) < count
  chosen true x y hx hy = hx
  chosen false x y hx hy = hy

  comparison_fine : (op : Comparison) → IsTestedValue (comparison_test op) 2
  comparison_fine comparisons.Less = refl
  comparison_fine comparisons.Greater = refl
  comparison_fine comparisons.LessOrEqual = refl
  comparison_fine comparisons.GreaterOrEqual = refl

  pub branch_two : (op : Comparison) (a b : Operand) (when : Bool) (t : ℕ) → IsOperand p locals a
      → IsOperand p locals b
      → t < count → IsItem p locals count (items.branch (comparison_test op) (a ∷ b ∷ []) when t)
  branch_two op a b when t ha hb lt =
      (All-cons (IsOperand p locals) a (b ∷ []) ha (one_operand b hb), comparison_fine op, lt)

  same_item : (o : Operand) (os : List Operand) (when : Bool) (t : ℕ) → IsOperand p locals o
      → All (IsOperand p locals) os → length os ≤ 3 → t < count
      → IsItem p locals count (items.branch items.same (o ∷ os) when t)
  same_item o os when t ho hos few lt =
      (All-cons (IsOperand p locals) o os ho hos, (omega arith, omega (arith, few)), lt)

  pub same_fine : (o : Operand) (os : List Operand) (at : ℕ) (when : Bool) (t : ℕ) → IsOperand p locals o
      → All (IsOperand p locals) os → at + same_count os < count → t < count → Fine (same_items o os at when t)
  same_fine o [] at when t ho hos lt le = first _ _ (same_item o [] when t ho hos (omega arith) le) nothing
  same_fine o (x ∷ []) at when t ho hos lt le =
      first _ _ (same_item o (x ∷ []) when t ho hos (omega arith) le) nothing
  same_fine o (x ∷ y ∷ []) at when t ho hos lt le =
      first _ _ (same_item o (x ∷ y ∷ []) when t ho hos (omega arith) le) nothing
  same_fine o (x ∷ y ∷ z ∷ []) at when t ho hos lt le =
      first _ _ (same_item o (x ∷ y ∷ z ∷ []) when t ho hos (omega arith) le) nothing
  same_fine o (x ∷ y ∷ z ∷ u ∷ os) at when t ho hos lt le =
      let P = IsOperand p locals in
      let h1 = All-tail P x (y ∷ z ∷ u ∷ os) hos in
      let h2 = All-tail P y (z ∷ u ∷ os) h1 in
      let h3 = All-tail P z (u ∷ os) h2 in
      let three = All-cons P x (y ∷ z ∷ []) (All-head P x (y ∷ z ∷ u ∷ os) hos)
      (All-cons P y (z ∷ []) (All-head P y (z ∷ u ∷ os) h1) (one_operand z (All-head P z (u ∷ os) h2))) in
      first _ _
      (same_item o (x ∷ y ∷ z ∷ []) true (if when then t else at + 1 + same_count (u ∷ os)) ho three (omega arith)
      (chosen when t (at + 1 + same_count (u ∷ os)) le (omega (arith, lt))))
      (same_fine o (u ∷ os) (at + 1) when t ho h3 (omega (arith, lt)) le)

  pub two_fine : (oa ob : Operand) (xa xb tail : List Item) (na nb at : ℕ)
      → at + (if_pushed oa na 0 + if_pushed ob nb 0) < count → (at + na < count → Fine xa)
      → (at + if_pushed oa na 0 + nb < count → Fine xb) → Fine tail
      → Fine (if_pushed oa xa [] ++ (if_pushed ob xb [] ++ tail))
  two_fine oa ob xa xb tail na nb at lt ha hb ht =
      joined (if_pushed oa xa []) _ (pushed_fine oa xa na at (omega (arith, lt)) ha)
      (joined (if_pushed ob xb []) tail (pushed_fine ob xb nb (at + if_pushed oa na 0) (omega (arith, lt)) hb) ht)

  pub three_fine : (oa ob oc : Operand) (xa xb xc tail : List Item) (na nb nc at : ℕ)
      → at + (if_pushed oa na 0 + if_pushed ob nb 0 + if_pushed oc nc 0) < count → (at + na < count → Fine xa)
      → (at + if_pushed oa na 0 + nb < count → Fine xb)
      → (at + if_pushed oa na 0 + if_pushed ob nb 0 + nc < count → Fine xc) → Fine tail
      → Fine (if_pushed oa xa [] ++ (if_pushed ob xb [] ++ (if_pushed oc xc [] ++ tail)))
  three_fine oa ob oc xa xb xc tail na nb nc at lt ha hb hc ht =
      joined (if_pushed oa xa []) _ (pushed_fine oa xa na at (omega (arith, lt)) ha)
      (two_fine ob oc xb xc tail nb nc (at + if_pushed oa na 0) (omega (arith, lt)) hb hc ht)

  pub either_fine : (b : Bool) (xs ys : List Item) → (b ≡ true → Fine xs) → (b ≡ false → Fine ys)
      → Fine (if b then xs else ys)
  either_fine true xs ys hx hy = hx refl
  either_fine false xs ys hx hy = hy refl

  -- how many items there are, where it is known which of two they are
  pub counted_then : (b : Bool) (at n m k : ℕ) → at + ((if b then n else m) + k) < count → b ≡ true
      → at + (n + k) < count
  counted_then b at n m k lt e = subst (λ c. at + ((if c then n else m) + k) < count) e lt

  pub counted_else : (b : Bool) (at n m k : ℕ) → at + ((if b then n else m) + k) < count → b ≡ false
      → at + (m + k) < count
  counted_else b at n m k lt e = subst (λ c. at + ((if c then n else m) + k) < count) e lt
