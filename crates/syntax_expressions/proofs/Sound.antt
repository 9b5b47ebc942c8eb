-- What is read derives in the grammar and is nested no deeper than was allowed; and where the fault is that a token
-- stands too deep, one does.
use Rattle.std.proofs.Common.{◌≡◌, ℕ, zero, suc, ◌<◌, ◌≤◌, true, List, [], ◌∷◌, length, Option, Some, None, refl}
use Rattle.std.proofs.Common.{sym, subst, inl, inr, arith}
use Rattle.syntax_lexer.specs.declared.token.Position.{Position}
use Rattle.syntax_lexer.specs.declared.token.Sign.TheVariants as s
use Rattle.syntax_lexer.specs.declared.token.Word.TheVariants as w
use Rattle.syntax_lexer.specs.Token.{Lexeme, name, sign, position_of}
use Rattle.syntax_trees.specs.declared.tree.Comparison.{Comparison}
use Rattle.syntax_trees.specs.declared.tree.Equality.{Equality}
use Rattle.syntax_trees.specs.declared.tree.Containment.{Containment}
use Rattle.syntax_trees.specs.declared.tree.ObjectTest.{ObjectTest}
use Rattle.syntax_trees.specs.declared.tree.Prefix.TheVariants as op
use Rattle.syntax_trees.specs.Tree.{ExpressionTree, call, prefixed, compare, equal, contained, tested, assign, none}
use Rattle.syntax_trees.specs.Views.{trees_of}
use Rattle.syntax_trees.specs.Parse.{head, tail, is_sign, is_word, expect, list}
use Rattle.syntax_expressions.specs.Operators.{logical, comparing, equating, containing, testing, adding, scaling}
use Rattle.syntax_expressions.specs.Operators.{begins_expression}
use Rattle.syntax_expressions.specs.Nesting.{DeepE, deep_e_left, deep_e_first, deep_e_right, DeepE1, deep_e1_first}
use Rattle.syntax_expressions.specs.Nesting.{deep_e1_next, DeepN1, deep_n1_plain, deep_n1_not, deep_n1_in, DeepE2}
use Rattle.syntax_expressions.specs.Nesting.{deep_e2_left, deep_e2_compare, deep_e2_equal, deep_e2_contained}
use Rattle.syntax_expressions.specs.Nesting.{DeepChoice, deep_choice_first, deep_choice_next, DeepE3, DeepU, DeepP}
use Rattle.syntax_expressions.specs.Nesting.{deep_e3_first, deep_e3_next, DeepE4, deep_e4_first, deep_e4_next, DeepN4}
use Rattle.syntax_expressions.specs.Nesting.{deep_n4_plain, deep_n4_complement, deep_n4_in, DeepArguments}
use Rattle.syntax_expressions.specs.Nesting.{deep_arguments_first, deep_arguments_next}
use Rattle.syntax_expressions.specs.PartParse.{tested_on, tested_next}
use Rattle.syntax_expressions.specs.Parse.{assignment, after_left, whole, nested, factor, product, sum, equate_on}
use Rattle.syntax_expressions.specs.Parse.{equated_on, contained_on, compared_on, comparison, logical_operand, condition}
use Rattle.syntax_expressions.specs.Parse.{right_side, expression, rest_of_call}
use Rattle.syntax_expressions.specs.Grammar.{IsE, e_plain, e_assign, IsE1, e1_plain, e1_logical, IsN1, n1_plain, n1_not}
use Rattle.syntax_expressions.specs.Grammar.{IsE2, e2_plain, e2_compare, e2_equal, e2_contained, e2_tested, IsChoice}
use Rattle.syntax_expressions.specs.Grammar.{choice_last, choice_or, IsE3, e3_plain, e3_add, IsE4, e4_plain, e4_scale}
use Rattle.syntax_expressions.specs.Grammar.{IsN4, n4_plain, n4_complement, IsP, p_call, p_call_with, IsArguments}
use Rattle.syntax_expressions.specs.Grammar.{arguments_last, arguments_comma, nesting, nestings}
use Rattle.syntax_expressions.proofs.Judged.{Stands, Judged, judged_read, judged_grammar, judged_deep, judged_then}
use Rattle.syntax_expressions.proofs.Judged.{judged_after, judged_by, judged_as}
use Rattle.syntax_expressions.proofs.Tokens.{at_sign, is_that_sign, is_that_word, expect_ok, expect_not_deep}
use Rattle.syntax_expressions.proofs.NamesRead.{name_judged}
use Rattle.syntax_expressions.proofs.Repeated.{chain_judged, list_judged}
use Rattle.syntax_expressions.proofs.SoundOperands.{Within, deeper, Inner, primary_judged, unary_judged, indexed_judged}

module _ (d : ℕ) (inner : Inner d) where
  complemented_judged : (ts : List Lexeme) → Judged (λ e r. IsN4 ts e r × (nesting e ≤ d)) (DeepN4 (suc d) ts)
      (factor (nested d) ts)
  unfolding factor
  complemented_judged ts =
      judged_by (is_sign s.Tilde (head ts)) _ _
      (λ e.
      let at = at_sign s.Tilde ts e in
      let p = position_of (head ts) in
      judged_then _ (inner.in_complement ts (tail ts))
      (λ a r h. judged_read (prefixed op.Complement a) r
      (subst (λ u. IsN4 u (prefixed op.Complement a) r) (sym at) (n4_complement h.0), omega (arith, h.1)))
      (λ u h. deeper (λ n. DeepN4 n (tail ts)) (λ n. DeepN4 n ts) d ts u
      (subst (λ v. DeepN4 1 v v) (sym at) deep_n4_complement)
      (λ n x. subst (λ v. DeepN4 (suc n) v u) (sym at) (deep_n4_in x)) h))
      (λ e. judged_as (indexed_judged d inner ts) (λ a r h. (n4_plain h.0, h.1)) (λ v h. deep_n4_plain h))

  product_judged : (ts : List Lexeme) → Judged (λ e r. IsE4 ts e r × (nesting e ≤ d)) (DeepE4 (suc d) ts)
      (product (nested d) ts)
  unfolding product
  product_judged ts =
      judged_then _ (complemented_judged ts)
      (λ a r h. chain_judged scaling (factor (nested d)) (λ e u. IsE4 ts e u × (nesting e ≤ d))
      (DeepE4 (suc d) ts) refl
      (λ l t op m q o. judged_as (complemented_judged m) (λ b u g. (e4_scale q.0 o g.0, omega (arith, q.1, g.1)))
      (λ v g. deep_e4_next q.0 o g))
      (length r) a r (e4_plain h.0, h.1))
      (λ v h. deep_e4_first h)

  sum_judged : (ts : List Lexeme) → Judged (λ e r. IsE3 ts e r × (nesting e ≤ d)) (DeepE3 (suc d) ts)
      (sum (nested d) ts)
  unfolding sum
  sum_judged ts =
      judged_then _ (product_judged ts)
      (λ a r h. chain_judged adding (product (nested d)) (λ e u. IsE3 ts e u × (nesting e ≤ d)) (DeepE3 (suc d) ts)
      refl
      (λ l t op m q o. judged_as (product_judged m) (λ b u g. (e3_add q.0 o g.0, omega (arith, q.1, g.1)))
      (λ v g. deep_e3_next q.0 o g))
      (length r) a r (e3_plain h.0, h.1))
      (λ v h. deep_e3_first h)

  or_next : (ts : List Lexeme) (a : ExpressionTree) (t : Lexeme) (m : List Lexeme) (xs : List ExpressionTree)
      (r : List Lexeme) → IsE3 ts a (t ∷ m) × (nesting a ≤ d) → is_word w.Or t ≡ true
      → IsChoice m (trees_of xs) r × (nestings (trees_of xs) ≤ d)
      → IsChoice ts (trees_of (a ∷ xs)) r × (nestings (trees_of (a ∷ xs)) ≤ d)
  or_next ts a t m xs r q e l =
      (choice_or (subst (λ x. IsE3 ts a (x ∷ m)) (is_that_word w.Or t e) q.0) l.0, omega (arith, q.1, l.1))

  or_deep : (ts : List Lexeme) (a : ExpressionTree) (t : Lexeme) (m v : List Lexeme)
      → IsE3 ts a (t ∷ m) × (nesting a ≤ d) → is_word w.Or t ≡ true → DeepChoice (suc d) m v → DeepChoice (suc d) ts v
  or_deep ts a t m v q e h = deep_choice_next (subst (λ x. IsE3 ts a (x ∷ m)) (is_that_word w.Or t e) q.0) h

  choice_judged : (ts : List Lexeme) → Judged (λ xs r. IsChoice ts (trees_of xs) r × (nestings (trees_of xs) ≤ d))
      (DeepChoice (suc d) ts) (list (is_word w.Or) (sum (nested d)) ts)
  choice_judged ts =
      list_judged (is_word w.Or) (sum (nested d)) (λ us a r. IsE3 us a r × (nesting a ≤ d))
      (λ us xs r. IsChoice us (trees_of xs) r × (nestings (trees_of xs) ≤ d)) (λ us. DeepE3 (suc d) us)
      (λ us. DeepChoice (suc d) us)
      refl (λ us a r q. (choice_last q.0, omega (arith, q.1))) or_next (λ us v h. deep_choice_first h) or_deep
      sum_judged ts

  comparison_judged : (ts : List Lexeme) → Judged (λ e r. IsE2 ts e r × (nesting e ≤ d)) (DeepE2 (suc d) ts)
      (comparison (nested d) ts)
  unfolding comparison after_left equate_on tested_next
  comparison_judged ts = judged_then _ (sum_judged ts) (λ a r h. go a r h.0 h.1) (λ v h. deep_e2_left h)
    where
      go5 : (a : ExpressionTree) (t : Lexeme) (m : List Lexeme) → IsE3 ts a (t ∷ m) → nesting a ≤ d
          → (o : Option ObjectTest) → testing t ≡ o
          → Judged (λ e r. IsE2 ts e r × (nesting e ≤ d)) (DeepE2 (suc d) ts) (tested_on a (t ∷ m) o)
      go5 a t m q b None o = judged_read a (t ∷ m) (e2_plain q, b)
      go5 a t m q b (Some test) o = judged_then _ (name_judged m)
          (λ x r g. judged_read (tested test a x) r (e2_tested (subst (λ v. IsE3 ts a (t ∷ v)) g q) o, b))
          (λ v never. absurd never)

      go4 : (a : ExpressionTree) (t : Lexeme) (m : List Lexeme) → IsE3 ts a (t ∷ m) → nesting a ≤ d
          → (o : Option Containment) → containing t ≡ o
          → Judged (λ e r. IsE2 ts e r × (nesting e ≤ d)) (DeepE2 (suc d) ts) (contained_on (nested d) a (t ∷ m) o)
      go4 a t m q b None o = go5 a t m q b (testing t) refl
      go4 a t m q b (Some op) o = judged_then _ (sum_judged m)
          (λ c r g. judged_read (contained op a c) r (e2_contained q o g.0, omega (arith, b, g.1)))
          (λ v g. deep_e2_contained q o g)

      go3 : (a : ExpressionTree) (t : Lexeme) (m : List Lexeme) → IsE3 ts a (t ∷ m) → nesting a ≤ d
          → (o : Option Equality) → equating t ≡ o
          → Judged (λ e r. IsE2 ts e r × (nesting e ≤ d)) (DeepE2 (suc d) ts) (equated_on (nested d) a (t ∷ m) o)
      go3 a t m q b None o = go4 a t m q b (containing t) refl
      go3 a t m q b (Some op) o = judged_then _ (choice_judged m)
          (λ xs r g. judged_read (equal op a (trees_of xs)) r (e2_equal q o g.0, omega (arith, b, g.1)))
          (λ v g. deep_e2_equal q o g)

      go2 : (a : ExpressionTree) (t : Lexeme) (m : List Lexeme) → IsE3 ts a (t ∷ m) → nesting a ≤ d
          → (o : Option Comparison) → comparing t ≡ o
          → Judged (λ e r. IsE2 ts e r × (nesting e ≤ d)) (DeepE2 (suc d) ts) (compared_on (nested d) a (t ∷ m) o)
      go2 a t m q b None o = go3 a t m q b (equating t) refl
      go2 a t m q b (Some op) o = judged_then _ (sum_judged m)
          (λ c r g. judged_read (compare op a c) r (e2_compare q o g.0, omega (arith, b, g.1)))
          (λ v g. deep_e2_compare q o g)

      go : (a : ExpressionTree) (r : List Lexeme) → IsE3 ts a r → nesting a ≤ d
          → Judged (λ e u. IsE2 ts e u × (nesting e ≤ d)) (DeepE2 (suc d) ts)
          (compared_on (nested d) a r (comparing (head r)))
      go a [] q b = judged_read a [] (e2_plain q, b)
      go a (t ∷ m) q b = go2 a t m q b (comparing t) refl

  negated_judged : (ts : List Lexeme) → Judged (λ e r. IsN1 ts e r × (nesting e ≤ d)) (DeepN1 (suc d) ts)
      (logical_operand (nested d) ts)
  unfolding logical_operand
  negated_judged ts =
      judged_by (is_sign s.Not (head ts)) _ _
      (λ e.
      let at = at_sign s.Not ts e in
      let p = position_of (head ts) in
      judged_then _ (inner.in_negation ts (tail ts))
      (λ a r h. judged_read (prefixed op.Not a) r
      (subst (λ u. IsN1 u (prefixed op.Not a) r) (sym at) (n1_not h.0), omega (arith, h.1)))
      (λ u h. deeper (λ n. DeepN1 n (tail ts)) (λ n. DeepN1 n ts) d ts u
      (subst (λ v. DeepN1 1 v v) (sym at) deep_n1_not)
      (λ n x. subst (λ v. DeepN1 (suc n) v u) (sym at) (deep_n1_in x)) h))
      (λ e. judged_as (comparison_judged ts) (λ a r h. (n1_plain h.0, h.1)) (λ v h. deep_n1_plain h))

  condition_judged : (ts : List Lexeme) → Judged (λ e r. IsE1 ts e r × (nesting e ≤ d)) (DeepE1 (suc d) ts)
      (condition (nested d) ts)
  unfolding condition
  condition_judged ts =
      judged_then _ (negated_judged ts)
      (λ a r h. chain_judged logical (logical_operand (nested d)) (λ e u. IsE1 ts e u × (nesting e ≤ d)) (DeepE1 (suc d) ts)
      refl
      (λ l t op m q o. judged_as (negated_judged m) (λ b u g. (e1_logical q.0 o g.0, omega (arith, q.1, g.1)))
      (λ v g. deep_e1_next q.0 o g))
      (length r) a r (e1_plain h.0, h.1))
      (λ v h. deep_e1_first h)

  -- the right side of an assignment, after its left side a
  right_judged : (ts : List Lexeme) (a : ExpressionTree) (p : Position) (m : List Lexeme)
      → IsE1 ts a (sign s.Assign p ∷ m) → nesting a ≤ d
      → Judged (λ b r. IsE ts (assign a p b) r × (nesting (assign a p b) ≤ d)) (DeepE (suc d) ts)
      (right_side (nested d) m)
  unfolding right_side
  right_judged ts a p m q b =
      judged_by (begins_expression (head m)) _ _
      (λ e. judged_as (inner.in_whole m m) (λ c r h. (e_assign q h.0, omega (arith, b, h.1)))
      (λ u h. deeper (λ n. DeepE n m) (λ n. DeepE n ts) d m u (first m q e) (λ n x. deep_e_right q x) h))
      (λ e. judged_grammar)
    where
      first : (u : List Lexeme) → IsE1 ts a (sign s.Assign p ∷ u) → begins_expression (head u) ≡ true
          → DeepE 1 ts u
      first [] q e = absurd cc
      first (t ∷ u) q e = deep_e_first q e

  expression_judged : (ts : List Lexeme) → Judged (λ e r. IsE ts e r × (nesting e ≤ d)) (DeepE (suc d) ts)
      (expression (nested d) ts)
  unfolding expression assignment
  expression_judged ts =
      judged_then _ (condition_judged ts)
      (λ a r h. judged_by (is_sign s.Assign (head r)) _ _
      (λ e.
      let left = subst (λ u. IsE1 ts a u) (at_sign s.Assign r e) h.0 in
      judged_then _ (right_judged ts a (position_of (head r)) (tail r) left h.1)
      (λ b u g. judged_read (assign a (position_of (head r)) b) u g) (λ v g. g))
      (λ e. judged_read a r (e_plain h.0, h.1)))
      (λ v h. deep_e_left h)

  comma_next : (ts : List Lexeme) (a : ExpressionTree) (t : Lexeme) (m : List Lexeme) (xs : List ExpressionTree)
      (r : List Lexeme) → IsE ts a (t ∷ m) × (nesting a ≤ d) → is_sign s.Comma t ≡ true
      → IsArguments m (trees_of xs) r × (nestings (trees_of xs) ≤ d)
      → IsArguments ts (trees_of (a ∷ xs)) r × (nestings (trees_of (a ∷ xs)) ≤ d)
  comma_next ts a t m xs r q e l =
      (arguments_comma (subst (λ x. IsE ts a (x ∷ m)) (is_that_sign s.Comma t e) q.0) l.0, omega (arith, q.1, l.1))

  comma_deep : (ts : List Lexeme) (a : ExpressionTree) (t : Lexeme) (m v : List Lexeme)
      → IsE ts a (t ∷ m) × (nesting a ≤ d) → is_sign s.Comma t ≡ true → DeepArguments (suc d) m v
      → DeepArguments (suc d) ts v
  comma_deep ts a t m v q e h = deep_arguments_next (subst (λ x. IsE ts a (x ∷ m)) (is_that_sign s.Comma t e) q.0) h

  arguments_judged : (ts : List Lexeme) → Judged
      (λ xs r. IsArguments ts (trees_of xs) r × (nestings (trees_of xs) ≤ d)) (DeepArguments (suc d) ts)
      (list (is_sign s.Comma) (expression (nested d)) ts)
  arguments_judged ts =
      list_judged (is_sign s.Comma) (expression (nested d)) (λ us a r. IsE us a r × (nesting a ≤ d))
      (λ us xs r. IsArguments us (trees_of xs) r × (nestings (trees_of xs) ≤ d)) (λ us. DeepE (suc d) us)
      (λ us. DeepArguments (suc d) us)
      refl (λ us a r q. (arguments_last q.0, omega (arith, q.1))) comma_next (λ us v h. deep_arguments_first h)
      comma_deep expression_judged ts

  called_judged : (f : List ℕ) (p q : Position) (ts : List Lexeme)
      → Judged (λ e r. IsP (name f p ∷ sign s.OpenParenthesis q ∷ ts) e r × (nesting e ≤ suc d))
      (DeepArguments (suc d) ts) (rest_of_call (nested d) (record { text = f; position = p }) ts)
  unfolding rest_of_call
  called_judged f p q ts =
      judged_by (is_sign s.CloseParenthesis (head ts)) _ _
      (λ e. judged_read _ (tail ts) (
        subst (λ u. IsP (name f p ∷ sign s.OpenParenthesis q ∷ u) (call (record { text = f; position = p }) none)
            (tail ts)) (sym (at_sign s.CloseParenthesis ts e)) p_call,
        omega arith,
      ))
      (λ e. judged_then _ (arguments_judged ts)
      (λ xs r h. judged_after (expect s.CloseParenthesis r) _
      (λ u g. judged_read _ u (
        p_call_with (subst (λ x. IsArguments ts (trees_of xs) x) (expect_ok s.CloseParenthesis r u g) h.0),
        omega
            (arith, h.1),
      ))
      (λ n g. absurd (expect_not_deep s.CloseParenthesis r n g)))
      (λ v h. h))

-- no nesting is left
pub no_more : (D : ℕ → List Lexeme → List Lexeme → Type 0) (o ts : List Lexeme) → Stands (Within 0 D o ts) (length o)
no_more D o ts = record { from = o; is = inl (refl, refl); left = refl }

pub inner_judged : (d : ℕ) → Inner d
unfolding nested
inner_judged zero = record {
  in_whole = λ o ts. judged_deep (no_more DeepE o ts);
  in_negation = λ o ts. judged_deep (no_more DeepN1 o ts);
  in_complement = λ o ts. judged_deep (no_more DeepN4 o ts);
  in_prefix = λ o ts. judged_deep (no_more DeepU o ts);
  in_operand = λ o ts. judged_deep (no_more DeepP o ts);
  in_arguments = λ f p q o ts. judged_deep (no_more DeepArguments o ts);
}
inner_judged (suc d) = record {
  in_whole = λ o ts. judged_as (expression_judged d (inner_judged d) ts) (λ e r h. (h.0, omega (arith, h.1)))
      (λ v h. inr h);
  in_negation = λ o ts. judged_as (negated_judged d (inner_judged d) ts) (λ e r h. (h.0, omega (arith, h.1)))
      (λ v h. inr h);
  in_complement = λ o ts. judged_as (complemented_judged d (inner_judged d) ts) (λ e r h. (h.0, omega (arith, h.1)))
      (λ v h. inr h);
  in_prefix = λ o ts. judged_as (unary_judged d (inner_judged d) ts) (λ e r h. (h.0, omega (arith, h.1)))
      (λ v h. inr h);
  in_operand = λ o ts. judged_as (primary_judged d (inner_judged d) ts) (λ e r h. (h.0, omega (arith, h.1)))
      (λ v h. inr h);
  in_arguments = λ f p q o ts. judged_as (called_judged d (inner_judged d) f p q ts)
      (λ e r h. (h.0, omega (arith, h.1))) (λ v h. inr h);
}

-- ---- for upper crates

-- an expression, with so many nestings at most
pub judged_E : (d : ℕ) (ts : List Lexeme) → Judged (λ e r. IsE ts e r × (nesting e ≤ d)) (DeepE (suc d) ts)
    (expression (nested d) ts)
judged_E d ts = expression_judged d (inner_judged d) ts

-- one without an assignment at its root
pub judged_E1 : (d : ℕ) (ts : List Lexeme) → Judged (λ e r. IsE1 ts e r × (nesting e ≤ d)) (DeepE1 (suc d) ts)
    (condition (nested d) ts)
judged_E1 d ts = condition_judged d (inner_judged d) ts

-- an expression one nesting further in, which the first of the tokens o opens
pub judged_whole : (d : ℕ) (o ts : List Lexeme) → Judged (λ e r. IsE ts e r × (nesting e < d)) (Within d DeepE o ts)
    (nested d whole (length o) ts)
judged_whole d o ts = (inner_judged d).in_whole o ts
