-- Reading an expression comes no further than a token that stands deeper than the nestings that are left.
use Rattle.std.proofs.Common.{◌≡◌, ℕ, suc, ◌<◌, ◌≤◌, true, false, List, ◌∷◌, length, Some, None, Ok, refl, arith}
use Rattle.syntax_lexer.specs.declared.token.Position.{Position}
use Rattle.syntax_lexer.specs.declared.token.Sign.TheVariants as s
use Rattle.syntax_lexer.specs.declared.token.Word.TheVariants as w
use Rattle.syntax_lexer.specs.Token.{Lexeme, name, reserved, sign, position_of}
use Rattle.syntax_trees.specs.declared.tree.Comparison.{Comparison}
use Rattle.syntax_trees.specs.declared.tree.Equality.{Equality}
use Rattle.syntax_trees.specs.declared.tree.Containment.{Containment}
use Rattle.syntax_trees.specs.declared.tree.Relative.{Relative}
use Rattle.syntax_trees.specs.declared.tree.Step.{Step}
use Rattle.syntax_trees.specs.declared.tree.Width.{Width}
use Rattle.syntax_trees.specs.Tree.{NameTree, ExpressionTree, index, relative_of, step_before, compare, equal}
use Rattle.syntax_trees.specs.Tree.{contained, call}
use Rattle.syntax_trees.specs.Views.{trees_of}
use Rattle.syntax_trees.specs.Parse.{◌>>=◌, head, is_sign, is_word, expect, list}
use Rattle.syntax_expressions.specs.Operators.{comparing, equating, containing, stepping, prefixes, relating}
use Rattle.syntax_expressions.specs.Operators.{indexing, begins_expression}
use Rattle.syntax_expressions.specs.Nesting.{DeepE, deep_e_left, deep_e_first, deep_e_right, DeepE1, deep_e1_first}
use Rattle.syntax_expressions.specs.Nesting.{deep_e1_next, DeepN1, deep_n1_plain, deep_n1_not, deep_n1_in, DeepE2}
use Rattle.syntax_expressions.specs.Nesting.{deep_e2_left, deep_e2_compare, deep_e2_equal, deep_e2_contained}
use Rattle.syntax_expressions.specs.Nesting.{DeepChoice, deep_choice_first, deep_choice_next, DeepE3, deep_e3_first}
use Rattle.syntax_expressions.specs.Nesting.{deep_e3_next, DeepE4, deep_e4_first, deep_e4_next, DeepN4, deep_n4_plain}
use Rattle.syntax_expressions.specs.Nesting.{deep_n4_complement, deep_n4_in, DeepE5, deep_e5_plain, deep_e5_index}
use Rattle.syntax_expressions.specs.Nesting.{deep_e5_entry, DeepU, deep_u_plain, deep_u_minus, deep_u_minus_in}
use Rattle.syntax_expressions.specs.Nesting.{deep_u_before, deep_u_before_in, DeepP, deep_p_call, deep_p_arguments}
use Rattle.syntax_expressions.specs.Nesting.{deep_p_relative, deep_p_relative_in, deep_p_parenthesis, deep_p_in}
use Rattle.syntax_expressions.specs.Nesting.{DeepArguments, deep_arguments_first, deep_arguments_next}
use Rattle.syntax_expressions.specs.Parse.{assignment, whole, negation, complement, prefix, operand, arguments, nested}
use Rattle.syntax_expressions.specs.Parse.{after_name, in_parentheses, object_relative, atom, primary, postfix, unary, entry, after_owner}
use Rattle.syntax_expressions.specs.Parse.{object_entry, array_entry, factor, product, sum, after_left, equate_on}
use Rattle.syntax_expressions.specs.Parse.{comparison, logical_operand, condition, right_side, expression, rest_of_call}
use Rattle.syntax_expressions.specs.PartParse.{expect_name, entry_of, after_operand, array_at}
use Rattle.syntax_expressions.proofs.Limited.{Limited}
use Rattle.syntax_expressions.proofs.Follow.{comparing_binds, equating_binds, containing_binds, logical_binds}
use Rattle.syntax_expressions.proofs.Follow.{adding_binds, scaling_binds, equating_only, containing_only}
use Rattle.syntax_expressions.proofs.Follow.{stepping_only}
use Rattle.syntax_expressions.proofs.Begins.{begins_not, begins_tilde, begins_minus, begins_step, begins_prefix}
use Rattle.syntax_expressions.proofs.Begins.{begins_close, step_prefixes}
use Rattle.syntax_expressions.proofs.Begins.{begin_P}
use Rattle.syntax_expressions.proofs.ArrayParts.{array_no_name}
use Rattle.syntax_expressions.proofs.Arrays.{no_array_P, step_no_name}
use Rattle.syntax_expressions.proofs.Short.{short_E, short_E1, short_E3, short_E4, short_P}
use Rattle.syntax_expressions.proofs.Alternatives.{owner_ends}
use Rattle.syntax_expressions.proofs.Complete.{at_E, at_E1, chain_E1, at_E3, chain_E3, chain_E4, owner_P}
use Rattle.syntax_expressions.proofs.Deepened.{Deepened, deep_in, deep_after, deep_same, deep_opened, deep_inside}
use Rattle.syntax_expressions.proofs.Deepened.{deep_linked, DeepListed, deep_first_item, deep_next_item, deep_list}
use Rattle.syntax_expressions.proofs.DeepBeginnings.{deep_begin_P, deep_begin_E5, deep_begin_E2, deep_begin_Arguments}
use Rattle.syntax_expressions.proofs.DeepBeginnings.{deep_starts_E, deep_no_array}

-- ---- one step for each place in an alternative

module _ (d : ℕ) {n : ℕ} {ts u : List Lexeme} where
  step_e_left : Deepened (condition (nested d) ts) d n ts u → Deepened (expression (nested d) ts) d n ts u
  unfolding expression
  step_e_left h = deep_in _ h

  step_e_right : {k : ℕ} {p : Position} {a : ExpressionTree} (m : List Lexeme)
      → Limited (condition (nested d) ts) d k a (sign s.Assign p ∷ m) → length m < length ts
      → begins_expression (head m) ≡ true → Deepened (nested d whole (length m) m) d n m u
      → Deepened (expression (nested d) ts) d n ts u
  unfolding expression assignment right_side
  step_e_right m a less e h =
      let right : Deepened (right_side (nested d) m) d n m u = deep_same (rw e refl) (omega arith) h in
      deep_after _ a (omega (arith, less)) (omega arith) (deep_in _ right)

  step_e1_first : Deepened (logical_operand (nested d) ts) d n ts u → Deepened (condition (nested d) ts) d n ts u
  unfolding condition
  step_e1_first h = deep_in _ h

  step_n1_plain : is_sign s.Not (head ts) ≡ false → Deepened (comparison (nested d) ts) d n ts u
      → Deepened (logical_operand (nested d) ts) d n ts u
  unfolding logical_operand
  step_n1_plain e h = deep_same (rw e refl) (omega arith) h

  step_e2_left : Deepened (sum (nested d) ts) d n ts u → Deepened (comparison (nested d) ts) d n ts u
  unfolding comparison
  step_e2_left h = deep_in _ h

  step_e2_compare : {k : ℕ} {a : ExpressionTree} {t : Lexeme} {op : Comparison} {m : List Lexeme}
      → Limited (sum (nested d) ts) d k a (t ∷ m) → length m < length ts → comparing t ≡ Some op
      → Deepened (sum (nested d) m) d n m u → Deepened (comparison (nested d) ts) d n ts u
  unfolding comparison after_left
  step_e2_compare {a = a} {op = op} {m = m} l less o h = deep_after {us = m} _ l (omega (arith, less)) (omega arith)
      (deep_same {S = sum (nested d) m >>= λ x. Ok (compare op a x.0, x.1)} (rw o refl) (omega arith) (deep_in _ h))

  step_e2_equal : {k : ℕ} {a : ExpressionTree} {t : Lexeme} {op : Equality} {m : List Lexeme}
      → Limited (sum (nested d) ts) d k a (t ∷ m) → length m < length ts → equating t ≡ Some op
      → Deepened (list (is_word w.Or) (sum (nested d)) m) d n m u → Deepened (comparison (nested d) ts) d n ts u
  unfolding comparison after_left equate_on
  step_e2_equal {a = a} {t = t} {op = op} {m = m} l less o h =
      deep_after {us = m} _ l (omega (arith, less)) (omega arith)
      (deep_same {S = list (is_word w.Or) (sum (nested d)) m >>= λ x. Ok (equal op a (trees_of x.0), x.1)}
      (rw (equating_only t op o, o) refl) (omega arith) (deep_in _ h))

  step_e2_contained : {k : ℕ} {a : ExpressionTree} {t : Lexeme} {op : Containment} {m : List Lexeme}
      → Limited (sum (nested d) ts) d k a (t ∷ m) → length m < length ts → containing t ≡ Some op
      → Deepened (sum (nested d) m) d n m u → Deepened (comparison (nested d) ts) d n ts u
  unfolding comparison after_left
  step_e2_contained {a = a} {t = t} {op = op} {m = m} l less o h =
      let not_these = containing_only t op o in
      deep_after {us = m} _ l (omega (arith, less)) (omega arith)
      (deep_same {S = sum (nested d) m >>= λ x. Ok (contained op a x.0, x.1)} (rw (not_these.0, not_these.1, o) refl)
      (omega arith) (deep_in _ h))

  step_e3_first : Deepened (product (nested d) ts) d n ts u → Deepened (sum (nested d) ts) d n ts u
  unfolding sum
  step_e3_first h = deep_in _ h

  step_e4_first : Deepened (factor (nested d) ts) d n ts u → Deepened (product (nested d) ts) d n ts u
  unfolding product
  step_e4_first h = deep_in _ h

  step_n4_plain : is_sign s.Tilde (head ts) ≡ false → Deepened (array_entry (nested d) ts) d n ts u
      → Deepened (factor (nested d) ts) d n ts u
  unfolding factor
  step_n4_plain e h = deep_same (rw e refl) (omega arith) h

  step_e5_prefixed : array_at ts ≡ None → prefixes (head ts) ≡ true → Deepened (unary (nested d) ts) d n ts u
      → Deepened (array_entry (nested d) ts) d n ts u
  unfolding array_entry object_entry
  step_e5_prefixed none o h = deep_same (rw (none, o) refl) (omega arith) h

  step_e5_primary : array_at ts ≡ None → prefixes (head ts) ≡ false → Deepened (primary (nested d) ts) d n ts u
      → Deepened (array_entry (nested d) ts) d n ts u
  unfolding array_entry object_entry
  step_e5_primary none o h = deep_same {S = primary (nested d) ts >>= λ x. after_owner (nested d) x.0 x.1}
      (rw (none, o) refl) (omega arith) (deep_in _ h)

  step_e5_entry : {k : ℕ} {a : ExpressionTree} {p q o : Position} {f : List ℕ} {m : List Lexeme}
      → array_at ts ≡ None → prefixes (head ts) ≡ false
      → Limited (primary (nested d) ts) d k a (sign s.DotAmpersand q ∷ name f p ∷ sign s.LongArrow o ∷ m)
      → suc (suc (length m)) < length ts → Deepened (unary (nested d) m) d n m u
      → Deepened (array_entry (nested d) ts) d n ts u
  unfolding array_entry object_entry after_owner entry entry_of expect_name expect
  step_e5_entry {m = m} none o a less h =
      deep_same {S = primary (nested d) ts >>= λ x. after_owner (nested d) x.0 x.1} {us = ts} (rw (none, o) refl)
      (omega arith) (deep_after {us = m} _ a (omega (arith, less)) (omega arith) (deep_in _ h))

  step_u_plain : is_sign s.Minus (head ts) ≡ false → stepping (head ts) ≡ None
      → Deepened (primary (nested d) ts) d n ts u → Deepened (unary (nested d) ts) d n ts u
  unfolding unary postfix
  step_u_plain e o h = deep_same {S = primary (nested d) ts >>= λ x. after_operand x.0 x.1} (rw (e, o) refl) (omega arith)
      (deep_in _ h)

  step_p : Deepened (atom (nested d) ts) d n ts u → Deepened (primary (nested d) ts) d n ts u
  unfolding primary
  step_p h = deep_in _ h

-- ---- tokens that open a nesting, and what follows them

module _ (d : ℕ) (m : List Lexeme) where
  open_n1 : (p : Position) → Deepened (logical_operand (nested d) (sign s.Not p ∷ m)) d 1 (sign s.Not p ∷ m)
      (sign s.Not p ∷ m)
  unfolding logical_operand nested
  open_n1 p = deep_opened (λ k. logical_operand (nested k) (sign s.Not p ∷ m)) d (omega arith) refl

  open_n4 : (p : Position) → Deepened (factor (nested d) (sign s.Tilde p ∷ m)) d 1 (sign s.Tilde p ∷ m)
      (sign s.Tilde p ∷ m)
  unfolding factor nested
  open_n4 p = deep_opened (λ k. factor (nested k) (sign s.Tilde p ∷ m)) d (omega arith) refl

  open_minus : (p : Position) → Deepened (unary (nested d) (sign s.Minus p ∷ m)) d 1 (sign s.Minus p ∷ m)
      (sign s.Minus p ∷ m)
  unfolding unary nested
  open_minus p = deep_opened (λ k. unary (nested k) (sign s.Minus p ∷ m)) d (omega arith) refl

  open_step : (t : Lexeme) (op : Step) → stepping t ≡ Some op
      → Deepened (unary (nested d) (t ∷ m)) d 1 (t ∷ m) (t ∷ m)
  unfolding unary nested
  open_step t op o = deep_opened (λ k. unary (nested k) (t ∷ m)) d (omega arith) (rw (stepping_only t op o, o) refl)

  open_call : (p q : Position) (f : List ℕ) → Deepened (atom (nested d) (name f p ∷ sign s.OpenParenthesis q ∷ m)) d 1
      (name f p ∷ sign s.OpenParenthesis q ∷ m) (sign s.OpenParenthesis q ∷ m)
  unfolding atom after_name nested
  open_call p q f = deep_opened (λ k. atom (nested k) (name f p ∷ sign s.OpenParenthesis q ∷ m)) d (omega arith) refl

  open_relative : (q : Position) (t : Lexeme) (which : Relative) → relating t ≡ Some which
      → Deepened (atom (nested d) (t ∷ sign s.OpenParenthesis q ∷ m)) d 1 (t ∷ sign s.OpenParenthesis q ∷ m)
      (sign s.OpenParenthesis q ∷ m)
  unfolding atom object_relative nested
  open_relative q (reserved v p) which e = deep_opened (λ k. atom (nested k) (reserved v p ∷ sign s.OpenParenthesis q ∷ m))
      d (omega arith) (rw e refl)
  open_relative q _ which e = absurd cc

  open_parenthesis : (p : Position) → Deepened (atom (nested d) (sign s.OpenParenthesis p ∷ m)) d 1
      (sign s.OpenParenthesis p ∷ m) (sign s.OpenParenthesis p ∷ m)
  unfolding atom in_parentheses nested
  open_parenthesis p = deep_opened (λ k. atom (nested k) (sign s.OpenParenthesis p ∷ m)) d (omega arith) refl

  open_right : Deepened (nested d whole (length m) m) d 1 m m
  unfolding nested
  open_right = deep_opened (λ k. nested k whole (length m) m) d (omega arith) refl

module _ (d : ℕ) {n : ℕ} {m u : List Lexeme} where
  step_n1_in : (p : Position) → Deepened (nested d negation (suc (length m)) m) d n m u
      → Deepened (logical_operand (nested d) (sign s.Not p ∷ m)) d n (sign s.Not p ∷ m) u
  unfolding logical_operand
  step_n1_in p h = deep_same refl (omega arith) (deep_in _ h)

  step_n4_in : (p : Position) → Deepened (nested d complement (suc (length m)) m) d n m u
      → Deepened (factor (nested d) (sign s.Tilde p ∷ m)) d n (sign s.Tilde p ∷ m) u
  unfolding factor
  step_n4_in p h = deep_same refl (omega arith) (deep_in _ h)

  step_e5_index : (p : Position) (t : Lexeme) (f : List ℕ) (width : Width) → indexing t ≡ Some width
      → Deepened (unary (nested d) m) d n m u
      → Deepened (array_entry (nested d) (name f p ∷ t ∷ m)) d n (name f p ∷ t ∷ m) u
  unfolding array_entry array_at
  step_e5_index p t f width o h =
      deep_same {S = unary (nested d) m >>= λ x. Ok (index (record { text = f; position = p }) width x.0, x.1)}
      (rw o refl) (omega arith) (deep_in _ h)

  step_u_minus : (p : Position) → Deepened (nested d prefix (suc (length m)) m) d n m u
      → Deepened (unary (nested d) (sign s.Minus p ∷ m)) d n (sign s.Minus p ∷ m) u
  unfolding unary
  step_u_minus p h = deep_same refl (omega arith) (deep_in _ h)

  step_u_before : (t : Lexeme) (op : Step) → stepping t ≡ Some op → Deepened (nested d operand (suc (length m)) m) d n m u
      → Deepened (unary (nested d) (t ∷ m)) d n (t ∷ m) u
  unfolding unary
  step_u_before t op o h = deep_same
      {S = nested d operand (suc (length m)) m >>= λ x. Ok (step_before op (position_of t) x.0, x.1)}
      (rw (stepping_only t op o, o) refl) (omega arith) (deep_in _ h)

  step_p_call : (p q : Position) (f : List ℕ)
      → Deepened (nested d (arguments (record { text = f; position = p })) (suc (length m)) m) d n m u
      → Deepened (atom (nested d) (name f p ∷ sign s.OpenParenthesis q ∷ m)) d n
      (name f p ∷ sign s.OpenParenthesis q ∷ m) u
  unfolding atom after_name
  step_p_call p q f h = deep_same refl (omega arith) h

  step_called : (f : NameTree) → is_sign s.CloseParenthesis (head m) ≡ false
      → Deepened (list (is_sign s.Comma) (expression (nested d)) m) d n m u → Deepened (rest_of_call (nested d) f m) d n m u
  unfolding rest_of_call
  step_called f e h =
      deep_same {S = list (is_sign s.Comma) (expression (nested d)) m >>= λ x. expect s.CloseParenthesis x.1
      >>= λ r. Ok (call f (trees_of x.0), r)} (rw e refl) (omega arith) (deep_in _ h)

  step_p_relative : (q : Position) (t : Lexeme) (which : Relative) → relating t ≡ Some which
      → Deepened (nested d whole (suc (length m)) m) d n m u
      → Deepened (atom (nested d) (t ∷ sign s.OpenParenthesis q ∷ m)) d n (t ∷ sign s.OpenParenthesis q ∷ m) u
  unfolding atom object_relative
  step_p_relative q (reserved v p) which e h = deep_same {S = nested d whole (suc (length m)) m
      >>= λ x. expect s.CloseParenthesis x.1 >>= λ r. Ok (relative_of which x.0, r)} (rw e refl) (omega arith)
      (deep_in _ h)
  step_p_relative q _ which e h = absurd cc

  step_p_in : (p : Position) → Deepened (nested d whole (suc (length m)) m) d n m u
      → Deepened (atom (nested d) (sign s.OpenParenthesis p ∷ m)) d n (sign s.OpenParenthesis p ∷ m) u
  unfolding atom in_parentheses
  step_p_in p h = deep_same refl (omega arith) (deep_in _ h)

module _ {n : ℕ} {ts u : List Lexeme} (left d : ℕ) (le : length ts ≤ left) where
  pub in_whole : ((k : ℕ) → Deepened (expression (nested k) ts) k n ts u)
      → Deepened (nested d whole left ts) d (suc n) ts u
  unfolding nested
  in_whole h = deep_inside (λ k. expression (nested k)) whole d le (λ k. refl) h

  in_negation : ((k : ℕ) → Deepened (logical_operand (nested k) ts) k n ts u)
      → Deepened (nested d negation left ts) d (suc n) ts u
  unfolding nested
  in_negation h = deep_inside (λ k. logical_operand (nested k)) negation d le (λ k. refl) h

  in_complement : ((k : ℕ) → Deepened (factor (nested k) ts) k n ts u)
      → Deepened (nested d complement left ts) d (suc n) ts u
  unfolding nested
  in_complement h = deep_inside (λ k. factor (nested k)) complement d le (λ k. refl) h

  in_prefix : ((k : ℕ) → Deepened (unary (nested k) ts) k n ts u) → Deepened (nested d prefix left ts) d (suc n) ts u
  unfolding nested
  in_prefix h = deep_inside (λ k. unary (nested k)) prefix d le (λ k. refl) h

  in_operand : ((k : ℕ) → Deepened (primary (nested k) ts) k n ts u)
      → Deepened (nested d operand left ts) d (suc n) ts u
  unfolding nested
  in_operand h = deep_inside (λ k. primary (nested k)) operand d le (λ k. refl) h

  in_arguments : (f : NameTree) → ((k : ℕ) → Deepened (rest_of_call (nested k) f ts) k n ts u)
      → Deepened (nested d (arguments f) left ts) d (suc n) ts u
  unfolding nested
  in_arguments f h = deep_inside (λ k. rest_of_call (nested k) f) (arguments f) d le (λ k. refl) h

-- ---- the levels

mutual
  pub deep_E : {n : ℕ} {ts u : List Lexeme} → DeepE n ts u → (d : ℕ) → Deepened (expression (nested d) ts) d n ts u
  deep_E (deep_e_left x) d = step_e_left d (deep_E1 x d)
  deep_E (deep_e_first {m = m} {t = t} a b) d = step_e_right d (t ∷ m) (at_E1 a d (omega arith))
      (omega (arith, short_E1 a)) b (open_right d (t ∷ m))
  deep_E (deep_e_right {m = m} a x) d = step_e_right d m (at_E1 a d (omega arith)) (omega (arith, short_E1 a))
      (deep_starts_E x) (in_whole (length m) d (omega arith) (λ k. deep_E x k))

  pub deep_E1 : {n : ℕ} {ts u : List Lexeme} → DeepE1 n ts u → (d : ℕ) → Deepened (condition (nested d) ts) d n ts u
  deep_E1 (deep_e1_first x) d = step_e1_first d (deep_N1 x d)
  deep_E1 (deep_e1_next {t = t} {op = op} a o x) d = deep_linked (chain_E1 a d (omega (arith, logical_binds t op o)))
      (omega (arith, short_E1 a)) o (deep_N1 x d)

  deep_N1 : {n : ℕ} {ts u : List Lexeme} → DeepN1 n ts u → (d : ℕ) → Deepened (logical_operand (nested d) ts) d n ts u
  deep_N1 {ts = ts} (deep_n1_plain x) d = step_n1_plain d (begins_not (head ts) (deep_begin_E2 x)) (deep_E2 x d)
  deep_N1 (deep_n1_not {m = m} {p = p}) d = open_n1 d m p
  deep_N1 (deep_n1_in {m = m} {p = p} x) d = step_n1_in d p
      (in_negation (suc (length m)) d (omega arith) (λ k. deep_N1 x k))

  deep_E2 : {n : ℕ} {ts u : List Lexeme} → DeepE2 n ts u → (d : ℕ) → Deepened (comparison (nested d) ts) d n ts u
  deep_E2 (deep_e2_left x) d = step_e2_left d (deep_E3 x d)
  deep_E2 (deep_e2_compare {t = t} {op = op} a o x) d = step_e2_compare d
      (at_E3 a d (omega (arith, comparing_binds t op o))) (omega (arith, short_E3 a)) o (deep_E3 x d)
  deep_E2 (deep_e2_equal {t = t} {op = op} a o x) d = step_e2_equal d
      (at_E3 a d (omega (arith, equating_binds t op o))) (omega (arith, short_E3 a)) o
      (deep_list (is_word w.Or) (sum (nested d)) d (deep_Choice x d))
  deep_E2 (deep_e2_contained {t = t} {op = op} a o x) d = step_e2_contained d
      (at_E3 a d (omega (arith, containing_binds t op o))) (omega (arith, short_E3 a)) o (deep_E3 x d)

  deep_Choice : {n : ℕ} {ts u : List Lexeme} → DeepChoice n ts u → (d : ℕ)
      → DeepListed (is_word w.Or) (sum (nested d)) d n ts u
  deep_Choice (deep_choice_first x) d = deep_first_item (is_word w.Or) (sum (nested d)) d (deep_E3 x d)
  deep_Choice (deep_choice_next a x) d = deep_next_item (is_word w.Or) (sum (nested d)) d (at_E3 a d (omega arith))
      (short_E3 a) refl (deep_Choice x d)

  deep_E3 : {n : ℕ} {ts u : List Lexeme} → DeepE3 n ts u → (d : ℕ) → Deepened (sum (nested d) ts) d n ts u
  deep_E3 (deep_e3_first x) d = step_e3_first d (deep_E4 x d)
  deep_E3 (deep_e3_next {t = t} {op = op} a o x) d = deep_linked (chain_E3 a d (omega (arith, adding_binds t op o)))
      (omega (arith, short_E3 a)) o (deep_E4 x d)

  deep_E4 : {n : ℕ} {ts u : List Lexeme} → DeepE4 n ts u → (d : ℕ) → Deepened (product (nested d) ts) d n ts u
  deep_E4 (deep_e4_first x) d = step_e4_first d (deep_N4 x d)
  deep_E4 (deep_e4_next {t = t} {op = op} a o x) d = deep_linked (chain_E4 a d (omega (arith, scaling_binds t op o)))
      (omega (arith, short_E4 a)) o (deep_N4 x d)

  deep_N4 : {n : ℕ} {ts u : List Lexeme} → DeepN4 n ts u → (d : ℕ) → Deepened (factor (nested d) ts) d n ts u
  deep_N4 {ts = ts} (deep_n4_plain x) d = step_n4_plain d (begins_tilde (head ts) (deep_begin_E5 x)) (deep_E5 x d)
  deep_N4 (deep_n4_complement {m = m} {p = p}) d = open_n4 d m p
  deep_N4 (deep_n4_in {m = m} {p = p} x) d = step_n4_in d p
      (in_complement (suc (length m)) d (omega arith) (λ k. deep_N4 x k))

  deep_E5 : {n : ℕ} {ts u : List Lexeme} → DeepE5 n ts u → (d : ℕ) → Deepened (array_entry (nested d) ts) d n ts u
  deep_E5 {ts = ts} (deep_e5_plain (deep_u_plain x)) d = step_e5_primary d (deep_no_array x)
      (begins_prefix (head ts) (deep_begin_P x)) (deep_P x d)
  deep_E5 {ts = ts} (deep_e5_plain (deep_u_minus {m = m} {p = p})) d = step_e5_prefixed d (array_no_name ts refl) refl
      (open_minus d m p)
  deep_E5 {ts = ts} (deep_e5_plain (deep_u_minus_in {m = m} {p = p} x)) d = step_e5_prefixed d
      (array_no_name ts refl) refl
      (step_u_minus d p (in_prefix (suc (length m)) d (omega arith) (λ k. deep_U x k)))
  deep_E5 {ts = ts} (deep_e5_plain (deep_u_before {m = m} {t = t} {op = op} o)) d = step_e5_prefixed d
      (array_no_name ts (step_no_name t op o)) (step_prefixes t op o) (open_step d m t op o)
  deep_E5 {ts = ts} (deep_e5_plain (deep_u_before_in {m = m} {t = t} {op = op} o x)) d = step_e5_prefixed d
      (array_no_name ts (step_no_name t op o)) (step_prefixes t op o)
      (step_u_before d t op o (in_operand (suc (length m)) d (omega arith) (λ k. deep_P x k)))
  deep_E5 (deep_e5_index {p = p} {t = t} {a = f} {width = width} o x) d = step_e5_index d p t f width o (deep_U x d)
  deep_E5 {ts = ts} (deep_e5_entry a x) d = step_e5_entry d (no_array_P a refl) (begins_prefix (head ts) (begin_P a))
      (owner_ends (owner_P a d (omega arith)) (omega arith)) (omega (arith, short_P a)) (deep_U x d)

  deep_U : {n : ℕ} {ts u : List Lexeme} → DeepU n ts u → (d : ℕ) → Deepened (unary (nested d) ts) d n ts u
  deep_U {ts = ts} (deep_u_plain x) d = step_u_plain d (begins_minus (head ts) (deep_begin_P x))
      (begins_step (head ts) (deep_begin_P x)) (deep_P x d)
  deep_U (deep_u_minus {m = m} {p = p}) d = open_minus d m p
  deep_U (deep_u_minus_in {m = m} {p = p} x) d = step_u_minus d p
      (in_prefix (suc (length m)) d (omega arith) (λ k. deep_U x k))
  deep_U (deep_u_before {m = m} {t = t} {op = op} o) d = open_step d m t op o
  deep_U (deep_u_before_in {m = m} {t = t} {op = op} o x) d = step_u_before d t op o
      (in_operand (suc (length m)) d (omega arith) (λ k. deep_P x k))

  deep_P : {n : ℕ} {ts u : List Lexeme} → DeepP n ts u → (d : ℕ) → Deepened (primary (nested d) ts) d n ts u
  deep_P (deep_p_call {m = m} {p = p} {q = q} {f = f}) d = step_p d (open_call d m p q f)
  deep_P (deep_p_arguments {m = m} {p = p} {q = q} {f = f} x) d =
      step_p d
      (step_p_call d p q f
      (in_arguments (suc (length m)) d (omega arith) (record { text = f; position = p })
      (λ k. step_called k (record { text = f; position = p }) (begins_close (head m) (deep_begin_Arguments x))
      (deep_list (is_sign s.Comma) (expression (nested k)) k (deep_Arguments x k)))))
  deep_P (deep_p_relative {m = m} {q = q} {t = t} {which = which} o) d = step_p d (open_relative d m q t which o)
  deep_P (deep_p_relative_in {m = m} {q = q} {t = t} {which = which} o x) d = step_p d
      (step_p_relative d q t which o (in_whole (suc (length m)) d (omega arith) (λ k. deep_E x k)))
  deep_P (deep_p_parenthesis {m = m} {p = p}) d = step_p d (open_parenthesis d m p)
  deep_P (deep_p_in {m = m} {p = p} x) d = step_p d
      (step_p_in d p (in_whole (suc (length m)) d (omega arith) (λ k. deep_E x k)))

  deep_Arguments : {n : ℕ} {ts u : List Lexeme} → DeepArguments n ts u → (d : ℕ)
      → DeepListed (is_sign s.Comma) (expression (nested d)) d n ts u
  deep_Arguments (deep_arguments_first x) d = deep_first_item (is_sign s.Comma) (expression (nested d)) d (deep_E x d)
  deep_Arguments (deep_arguments_next a x) d = deep_next_item (is_sign s.Comma) (expression (nested d)) d
      (at_E a d (omega arith)) (short_E a) refl (deep_Arguments x d)
