-- What a resolved expression needs is no more than its tree needs.
use Rattle.std.proofs.Common.{◌≡◌, ℕ, ◌+◌, ◌≤◌, List, [], ◌∷◌, ◌++◌, Option, Some, None, refl, ap, arith}
use Rattle.syntax_trees.specs.Tree as trees
use Rattle.syntax_trees.specs.Tree.{ExpressionTree, ExpressionTrees}
use Rattle.syntax_trees.specs.declared.tree.ObjectTest.{ObjectTest}
use Rattle.syntax_trees.specs.declared.tree.ObjectTest.TheVariants as tests
use Rattle.meaning.specs.Limits.{operands}
use Rattle.meaning.specs.Resolved as values
use Rattle.meaning.specs.Resolved.{Value}
use Rattle.meaning.specs.Accepted.{count_of, need_of, needs_of}
use Rattle.checker_values.specs.declared.binding.Binding.{Binding}
use Rattle.checker_values.specs.declared.binding.Binding.TheVariants as bindings
use Rattle.checker_values.specs.Names.{Seen}
use Rattle.checker_values.specs.Temporaries.{need, needs, left_needs}
use Rattle.checker_values.specs.Expressions.{count, value_of_binding, tested_for, assigned, resolve, resolve_all}

pub count_same : (seen : Seen) (es : ExpressionTrees) → count_of (resolve_all seen es) ≡ count es
count_same seen trees.none = refl
count_same seen (trees.more e es) = ap (λ (n : ℕ). n + 1) (count_same seen es)

need_named : (numbers : ℕ → ℕ) (o : Option Binding) → need_of (value_of_binding numbers o) ≡ 1
need_named numbers None = refl
need_named numbers (Some (bindings.Constant n)) = refl
need_named numbers (Some (bindings.Global g)) = refl
need_named numbers (Some (bindings.Array a kind)) = refl
need_named numbers (Some (bindings.Routine r n)) = refl
need_named numbers (Some (bindings.Attribute x)) = refl
need_named numbers (Some (bindings.Property x)) = refl
need_named numbers (Some (bindings.Object x)) = refl
need_named numbers (Some (bindings.Local l)) = refl

-- an assignment needs no more than its sides

name_below : (numbers : ℕ → ℕ) (o : Option Binding) (v : Value) (b : ℕ) → need_of v ≤ b
    → need_of (assigned (value_of_binding numbers o) v) ≤ operands 0 (b ∷ [])
name_below numbers None v b h = omega (arith, h)
name_below numbers (Some (bindings.Constant n)) v b h = omega (arith, h)
name_below numbers (Some (bindings.Global g)) v b h = omega (arith, h)
name_below numbers (Some (bindings.Array a kind)) v b h = omega (arith, h)
name_below numbers (Some (bindings.Routine r n)) v b h = omega (arith, h)
name_below numbers (Some (bindings.Attribute x)) v b h = omega (arith, h)
name_below numbers (Some (bindings.Property x)) v b h = omega (arith, h)
name_below numbers (Some (bindings.Object x)) v b h = omega (arith, h)
name_below numbers (Some (bindings.Local l)) v b h = omega (arith, h)

second_below : (a b n : ℕ) → n ≤ b → operands 0 (n ∷ []) ≤ operands 0 (a ∷ b ∷ [])
second_below a b n h = omega (arith, h)

entry_below : (i a b n : ℕ) → operands 0 (i ∷ []) ≤ a → n ≤ b → operands 0 (i ∷ n ∷ []) ≤ operands 0 (a ∷ b ∷ [])
entry_below i a b n h k = omega (arith, h, k)

one_below : (a b : ℕ) → a ≤ b → operands 0 (a ∷ []) ≤ operands 0 (b ∷ [])
one_below a b h = omega (arith, h)

word_below : (o i a b c n : ℕ) → o ≤ a → i ≤ b → n ≤ c
    → operands 0 (o ∷ i ∷ n ∷ []) ≤ operands 0 (a ∷ b ∷ c ∷ [])
word_below o i a b c n h j k = omega (arith, h, j, k)

-- an assignment to an assignment is none to an entry or a property
twice_below : (w x v : Value) (a b : ℕ) → need_of v ≤ b
    → need_of (assigned (assigned w x) v) ≤ operands 0 (a ∷ b ∷ [])
twice_below (values.number n) x v a b k = second_below a b (need_of v) k
twice_below (values.read z) x v a b k = second_below a b (need_of v) k
twice_below (values.call r vs) x v a b k = second_below a b (need_of v) k
twice_below (values.prefixed op u) x v a b k = second_below a b (need_of v) k
twice_below (values.step_before op z) x v a b k = second_below a b (need_of v) k
twice_below (values.step_after z op) x v a b k = second_below a b (need_of v) k
twice_below (values.binary op z y) x v a b k = second_below a b (need_of v) k
twice_below (values.compare op z y) x v a b k = second_below a b (need_of v) k
twice_below (values.equal op z ys) x v a b k = second_below a b (need_of v) k
twice_below (values.assign z u) x v a b k = second_below a b (need_of v) k
twice_below (values.entry uidth n i) x v a b k = second_below a b (need_of v) k
twice_below (values.assign_entry uidth n i u) x v a b k = second_below a b (need_of v) k
twice_below (values.relative r u) x v a b k = second_below a b (need_of v) k
twice_below (values.contained op z y) x v a b k = second_below a b (need_of v) k
twice_below (values.has positive u n) x v a b k = second_below a b (need_of v) k
twice_below (values.provides u n) x v a b k = second_below a b (need_of v) k
twice_below (values.property u n) x v a b k = second_below a b (need_of v) k
twice_below (values.property_size u n) x v a b k = second_below a b (need_of v) k
twice_below (values.property_word u n i) x v a b k = second_below a b (need_of v) k
twice_below (values.assign_property u n z) x v a b k = second_below a b (need_of v) k
twice_below (values.assign_property_word u n i z) x v a b k = second_below a b (need_of v) k

tested_below : (test : ObjectTest) (w v : Value) (o : Option Binding) (a b : ℕ) → need_of v ≤ b
    → need_of (assigned (tested_for test w o) v) ≤ operands 0 (a ∷ b ∷ [])
tested_below tests.Has w v o a b k = second_below a b (need_of v) k
tested_below tests.HasNot w v o a b k = second_below a b (need_of v) k
tested_below tests.Provides w v o a b k = second_below a b (need_of v) k

tested_needs : (test : ObjectTest) (w : Value) (o : Option Binding)
    → need_of (tested_for test w o) ≡ operands 0 (need_of w ∷ [])
tested_needs tests.Has w o = refl
tested_needs tests.HasNot w o = refl
tested_needs tests.Provides w o = refl

-- each of the second needs is at least that of the first
abbrev pub AreBelow : List ℕ → List ℕ → Type 0
AreBelow [] [] = Unit {0}
AreBelow [] (n ∷ ns) = ⊥
AreBelow (m ∷ ms) [] = ⊥
AreBelow (m ∷ ms) (n ∷ ns) = (m ≤ n) × AreBelow ms ns

operands_below : (b : ℕ) (ms ns : List ℕ) → AreBelow ms ns → operands b ms ≤ operands b ns
operands_below b [] [] h = omega arith
operands_below b [] (n ∷ ns) h = absurd h
operands_below b (m ∷ ms) [] h = absurd h
operands_below b (m ∷ ms) (n ∷ ns) h = let first = h.0 in let rest = operands_below (b + 1) ms ns h.1 in
    omega (arith, first, rest)

module _ (seen : Seen) where
  mutual
    pub need_below : (e : ExpressionTree) → need_of (resolve seen e) ≤ need e
    need_below (trees.constant n) = omega arith
    need_below (trees.word s) = omega arith
    need_below (trees.named n) = let one = need_named seen.number (seen.look n.text) in omega (arith, one)
    need_below (trees.call n es) = operands_below 0 (needs_of (resolve_all seen es)) (needs es) (needs_below es)
    need_below (trees.index n width e) = let h = need_below e in omega (arith, h)
    need_below (trees.parenthesised e) = need_below e
    need_below (trees.relative_of r e) = let h = need_below e in omega (arith, h)
    need_below (trees.property e n) = let h = need_below e in omega (arith, h)
    need_below (trees.property_length e n) = let h = need_below e in omega (arith, h)
    need_below (trees.property_entry e n i) = let h = need_below e in let k = need_below i in omega (arith, h, k)
    need_below (trees.prefixed op e) = let h = need_below e in omega (arith, h)
    need_below (trees.step_before op p e) = omega arith
    need_below (trees.step_after e op p) = omega arith
    need_below (trees.binary op a b) = let h = need_below a in let k = need_below b in omega (arith, h, k)
    need_below (trees.compare op a b) = let h = need_below a in let k = need_below b in omega (arith, h, k)
    need_below (trees.equal op a bs) = operands_below 0 (need_of (resolve seen a) ∷ needs_of (resolve_all seen bs))
        (need a ∷ needs bs) (need_below a, needs_below bs)
    need_below (trees.contained op a b) = let h = need_below a in let k = need_below b in omega (arith, h, k)
    need_below (trees.tested test e n) =
        let h = need_below e in
        let same = tested_needs test (resolve seen e) (seen.look n.text) in
        omega (arith, h, same)
    need_below (trees.assign a p b) = assigned_below a (resolve seen b) (need b) (need_below b)

    -- an assignment needs no more than its sides
    assigned_below : (e : ExpressionTree) (v : Value) (b : ℕ) → need_of v ≤ b
        → need_of (assigned (resolve seen e) v) ≤ operands 0 (left_needs e (need e) ++ b ∷ [])
    assigned_below (trees.constant n) v b h = second_below 1 b (need_of v) h
    assigned_below (trees.word s) v b h = second_below 1 b (need_of v) h
    assigned_below (trees.named n) v b h = name_below seen.number (seen.look n.text) v b h
    assigned_below (trees.call n es) v b h = second_below (need (trees.call n es)) b (need_of v) h
    assigned_below (trees.index n width e) v b h =
        entry_below (need_of (resolve seen e)) (operands 0 (need e ∷ [])) b (need_of v)
        (one_below (need_of (resolve seen e)) (need e) (need_below e)) h
    assigned_below (trees.parenthesised e) v b h = assigned_below e v b h
    assigned_below (trees.relative_of r e) v b h = second_below (need (trees.relative_of r e)) b (need_of v) h
    assigned_below (trees.property e n) v b h =
        entry_below (need_of (resolve seen e)) (operands 0 (need e ∷ [])) b (need_of v)
        (one_below (need_of (resolve seen e)) (need e) (need_below e)) h
    assigned_below (trees.property_length e n) v b h = second_below (need (trees.property_length e n)) b (need_of v) h
    assigned_below (trees.property_entry e n i) v b h =
        word_below (need_of (resolve seen e)) (need_of (resolve seen i)) (need e) (need i) b (need_of v) (need_below e)
        (need_below i) h
    assigned_below (trees.prefixed op e) v b h = second_below (need (trees.prefixed op e)) b (need_of v) h
    assigned_below (trees.step_before op p e) v b h = second_below (need (trees.step_before op p e)) b (need_of v) h
    assigned_below (trees.step_after e op p) v b h = second_below (need (trees.step_after e op p)) b (need_of v) h
    assigned_below (trees.binary op a c) v b h = second_below (need (trees.binary op a c)) b (need_of v) h
    assigned_below (trees.compare op a c) v b h = second_below (need (trees.compare op a c)) b (need_of v) h
    assigned_below (trees.equal op a cs) v b h = second_below (need (trees.equal op a cs)) b (need_of v) h
    assigned_below (trees.contained op a c) v b h = second_below (need (trees.contained op a c)) b (need_of v) h
    assigned_below (trees.tested test e n) v b h =
        tested_below test (resolve seen e) v (seen.look n.text) (need (trees.tested test e n)) b h
    assigned_below (trees.assign a p c) v b h =
        twice_below (resolve seen a) (resolve seen c) v (need (trees.assign a p c)) b h

    pub needs_below : (es : ExpressionTrees) → AreBelow (needs_of (resolve_all seen es)) (needs es)
    needs_below trees.none = tt
    needs_below (trees.more e es) = (need_below e, needs_below es)
