-- How each alternative of the grammar is read, from how its parts are read.
use Rattle.std.proofs.Common.{◌≡◌, ℕ, max, true, false, List, [], ◌∷◌, Some, None, Result, Ok, refl, ap, arith, length, suc, ◌≤◌}
use Rattle.syntax_lexer.specs.declared.token.Position.{Position}
use Rattle.syntax_lexer.specs.declared.token.Sign.TheVariants as s
use Rattle.syntax_lexer.specs.declared.token.Word.TheVariants as w
use Rattle.syntax_lexer.specs.Token.{Lexeme, name, number, character, dictionary_word, reserved, sign, position_of}
use Rattle.syntax_trees.specs.declared.tree.Comparison.{Comparison}
use Rattle.syntax_trees.specs.declared.tree.Equality.{Equality}
use Rattle.syntax_trees.specs.declared.tree.Containment.{Containment}
use Rattle.syntax_trees.specs.declared.tree.ObjectTest.{ObjectTest}
use Rattle.syntax_trees.specs.declared.tree.Prefix.TheVariants as op
use Rattle.syntax_trees.specs.declared.tree.Relative.{Relative}
use Rattle.syntax_trees.specs.declared.tree.Step.{Step}
use Rattle.syntax_trees.specs.declared.tree.Width.{Width}
use Rattle.syntax_trees.specs.Tree.{NameTree, ExpressionTree, ExpressionTrees, constant, word, named, call, index}
use Rattle.syntax_trees.specs.Tree.{parenthesised, relative_of, property_length, property_entry, prefixed, step_before}
use Rattle.syntax_trees.specs.Tree.{step_after, compare, equal, contained, tested, assign, none, more}
use Rattle.syntax_trees.specs.Views.{trees_of}
use Rattle.syntax_trees.specs.Stop.{Stop}
use Rattle.syntax_trees.specs.Parse.{◌>>=◌, head, is_sign, is_word, expect, list}
use Rattle.syntax_expressions.specs.Operators.{logical, comparing, equating, containing, testing, adding, scaling}
use Rattle.syntax_expressions.specs.Operators.{stepping, prefixes, relating, indexing, begins_expression}
use Rattle.syntax_expressions.specs.Parse.{assignment, after_left, whole, negation, complement, prefix, operand}
use Rattle.syntax_expressions.specs.Parse.{arguments, nested, after_name, in_parentheses, object_relative, atom, primary, postfix}
use Rattle.syntax_expressions.specs.Parse.{unary, entry, after_owner, object_entry, array_entry, factor, product, sum, equate_on}
use Rattle.syntax_expressions.specs.Parse.{comparison, logical_operand, condition, right_side, expression, rest_of_call}
use Rattle.syntax_expressions.specs.PartParse.{expect_name, entry_of, with_length, tested_next, after_operand, array_at}
use Rattle.syntax_expressions.proofs.Limited.{Limited, bound, then, at_once, same, Chained, begins}
use Rattle.syntax_expressions.proofs.Properties.{Owned, owner_begins, owner_stops}
use Rattle.syntax_expressions.proofs.Follow.{Stops, equating_only, containing_only, testing_only, stepping_only}
use Rattle.syntax_expressions.proofs.Follow.{comparing_stops, equating_stops, containing_stops, testing_stops}
use Rattle.syntax_expressions.proofs.Follow.{stepping_stops, assign_stops, length_stops, property_stops}
use Rattle.syntax_expressions.proofs.Follow.{parenthesis_stops}

-- the trees of a list of trees, as a list
abbrev pub list_of : ExpressionTrees → List ExpressionTree
list_of none = []
list_of (more e es) = e ∷ list_of es

trees_back : (es : ExpressionTrees) → trees_of (list_of es) ≡ es
trees_back none = refl
trees_back (more e es) = ap (more e) (trees_back es)

-- ---- operands with what stands after them

pub owner_ends : {R : Result (ExpressionTree × List Lexeme) Stop} {d n : ℕ} {e : ExpressionTree} {r : List Lexeme}
    → Owned R d n e r → Stops 7 r → Limited R d n e r
owner_ends {r = r} o st = owner_stops o (property_stops (head r) st)

pub suffix_none : (e : ExpressionTree) (r : List Lexeme) → Stops 6 r → after_operand e r ≡ Ok (e, r)
unfolding after_operand with_length
suffix_none e r st = rw (stepping_stops (head r) st, length_stops (head r) st) refl

pub suffix_step : (e : ExpressionTree) (t : Lexeme) (op : Step) (r : List Lexeme) → stepping t ≡ Some op
    → after_operand e (t ∷ r) ≡ Ok (step_after e op (position_of t), r)
unfolding after_operand
suffix_step e t op r o = rw o refl

pub suffix_length : (e : ExpressionTree) (p q : Position) (f : List ℕ) (r : List Lexeme)
    → after_operand e (sign s.DotHash q ∷ name f p ∷ r)
    ≡ Ok (property_length e (record { text = f; position = p }), r)
unfolding after_operand with_length expect_name
suffix_length e p q f r = refl

-- ---- one step for each alternative

module _ (ts : List Lexeme) (d : ℕ) where
  pub step_e_plain : {n : ℕ} {e : ExpressionTree} {r : List Lexeme} → Limited (condition (nested d) ts) d n e r
      → Stops 1 r → Limited (expression (nested d) ts) d n e r
  unfolding expression assignment
  step_e_plain {r = r} a st = then _ a (omega arith) (rw (assign_stops (head r) st) refl)

  pub step_e_assign : {n k : ℕ} {p : Position} {a b : ExpressionTree} {r : List Lexeme} (m : List Lexeme)
      → Limited (condition (nested d) ts) d n a (sign s.Assign p ∷ m) → begins_expression (head m) ≡ true
      → length r ≤ length m → Limited (nested d whole (length m) m) d k b r
      → Limited (expression (nested d) ts) d (max n k) (assign a p b) r
  unfolding expression assignment right_side
  step_e_assign {k = k} {b = b} {r = r} m a e short h =
      let right : Limited (right_side (nested d) m) d k b r = same (rw e refl) h in
      bound _ a (omega (arith, short)) (then _ right (omega arith) refl)

  pub step_e1_plain : {n : ℕ} {e : ExpressionTree} {r : List Lexeme} → Limited (logical_operand (nested d) ts) d n e r
      → Chained logical (logical_operand (nested d)) (condition (nested d) ts) d n e r
  unfolding condition
  step_e1_plain a = begins logical (logical_operand (nested d)) ts a

  pub step_n1_plain : {n : ℕ} {e : ExpressionTree} {r : List Lexeme} → is_sign s.Not (head ts) ≡ false
      → Limited (comparison (nested d) ts) d n e r → Limited (logical_operand (nested d) ts) d n e r
  unfolding logical_operand
  step_n1_plain h a = same (rw h refl) a

  pub step_e2_plain : {n : ℕ} {e : ExpressionTree} {r : List Lexeme} → Limited (sum (nested d) ts) d n e r → Stops 3 r
      → Limited (comparison (nested d) ts) d n e r
  unfolding comparison after_left tested_next
  step_e2_plain {r = r} a st = then _ a (omega arith)
      (rw (
        comparing_stops (head r) st,
        equating_stops (head r) st,
        containing_stops (head r) st,
        testing_stops (head r) st,
      ) refl)

  pub step_e2_contained : {n k : ℕ} {a b : ExpressionTree} {t : Lexeme} {op : Containment} {m r : List Lexeme}
      → Limited (sum (nested d) ts) d n a (t ∷ m) → containing t ≡ Some op → length r ≤ length m
      → Limited (sum (nested d) m) d k b r
      → Limited (comparison (nested d) ts) d (max n k) (contained op a b) r
  unfolding comparison after_left
  step_e2_contained {a = a} {t = t} {op = op} {m = m} l o short b =
      let not_these = containing_only t op o in
      bound _ l (omega (arith, short))
      (same {S = sum (nested d) m >>= λ x. Ok (contained op a x.0, x.1)} (rw (not_these.0, not_these.1, o) refl)
      (then _ b (omega arith) refl))

  pub step_e2_tested : {n : ℕ} {a : ExpressionTree} {t : Lexeme} {test : ObjectTest} {p : Position} {f : List ℕ}
      {r : List Lexeme} → Limited (sum (nested d) ts) d n a (t ∷ name f p ∷ r) → testing t ≡ Some test
      → Limited (comparison (nested d) ts) d n (tested test a (record { text = f; position = p })) r
  unfolding comparison after_left tested_next expect_name
  step_e2_tested {t = t} {test = test} l o =
      let not_these = testing_only t test o in
      then _ l (omega arith) (rw (not_these.0, not_these.1, not_these.2, o) refl)

  pub step_e2_compare : {n k : ℕ} {a b : ExpressionTree} {t : Lexeme} {op : Comparison} {m r : List Lexeme}
      → Limited (sum (nested d) ts) d n a (t ∷ m) → comparing t ≡ Some op → length r ≤ length m
      → Limited (sum (nested d) m) d k b r
      → Limited (comparison (nested d) ts) d (max n k) (compare op a b) r
  unfolding comparison after_left
  step_e2_compare {a = a} {op = op} {m = m} l o short b = bound _ l (omega (arith, short))
      (same {S = sum (nested d) m >>= λ x. Ok (compare op a x.0, x.1)} (rw o refl) (then _ b (omega arith) refl))

  pub step_e2_equal : {n k : ℕ} {a : ExpressionTree} {t : Lexeme} {op : Equality} {bs : ExpressionTrees} {m r : List
      Lexeme} → Limited (sum (nested d) ts) d n a (t ∷ m) → equating t ≡ Some op → length r ≤ length m
      → Limited (list (is_word w.Or) (sum (nested d)) m) d k (list_of bs) r
      → Limited (comparison (nested d) ts) d (max n k) (equal op a bs) r
  unfolding comparison after_left equate_on
  step_e2_equal {a = a} {t = t} {op = op} {bs = bs} {m = m} {r = r} l o short b =
      bound _ l (omega (arith, short))
      (same {S = list (is_word w.Or) (sum (nested d)) m >>= λ x. Ok (equal op a (trees_of x.0), x.1)}
      (rw (equating_only t op o, o) refl) (then _ b (omega arith) (rw (trees_back bs) refl)))

  pub step_e3_plain : {n : ℕ} {e : ExpressionTree} {r : List Lexeme} → Limited (product (nested d) ts) d n e r
      → Chained adding (product (nested d)) (sum (nested d) ts) d n e r
  unfolding sum
  step_e3_plain a = begins adding (product (nested d)) ts a

  pub step_e4_plain : {n : ℕ} {e : ExpressionTree} {r : List Lexeme} → Limited (factor (nested d) ts) d n e r
      → Chained scaling (factor (nested d)) (product (nested d) ts) d n e r
  unfolding product
  step_e4_plain a = begins scaling (factor (nested d)) ts a

  pub step_n4_plain : {n : ℕ} {e : ExpressionTree} {r : List Lexeme} → is_sign s.Tilde (head ts) ≡ false
      → Limited (array_entry (nested d) ts) d n e r → Limited (factor (nested d) ts) d n e r
  unfolding factor
  step_n4_plain h a = same (rw h refl) a

  pub step_e5_prefixed : {n : ℕ} {e : ExpressionTree} {r : List Lexeme} → array_at ts ≡ None → prefixes (head ts) ≡ true
      → Limited (unary (nested d) ts) d n e r → Limited (array_entry (nested d) ts) d n e r
  unfolding array_entry object_entry
  step_e5_prefixed h o a = same (rw (h, o) refl) a

  pub step_e5_suffixed : {n : ℕ} {a e : ExpressionTree} {m r : List Lexeme} → array_at ts ≡ None
      → prefixes (head ts) ≡ false → Limited (primary (nested d) ts) d n a m
      → is_sign s.DotAmpersand (head m) ≡ false → length r ≤ length m → after_operand a m ≡ Ok (e, r)
      → Limited (array_entry (nested d) ts) d n e r
  unfolding array_entry object_entry after_owner
  step_e5_suffixed h o a ends short p = same {S = primary (nested d) ts >>= λ x. after_owner (nested d) x.0 x.1}
      (rw (h, o) refl) (then _ a short (rw ends p))

  pub step_e5_entry : {n k : ℕ} {a i : ExpressionTree} {p q o : Position} {f : List ℕ} {m r : List Lexeme}
      → array_at ts ≡ None → prefixes (head ts) ≡ false
      → Limited (primary (nested d) ts) d n a (sign s.DotAmpersand q ∷ name f p ∷ sign s.LongArrow o ∷ m)
      → length r ≤ length m → Limited (unary (nested d) m) d k i r
      → Limited (array_entry (nested d) ts) d (max n k) (property_entry a (record { text = f; position = p }) i) r
  unfolding array_entry object_entry after_owner entry entry_of expect_name expect
  step_e5_entry h o a short b = same {S = primary (nested d) ts >>= λ x. after_owner (nested d) x.0 x.1} (rw (h, o) refl)
      (bound _ a (omega (arith, short)) (then _ b (omega arith) refl))

  pub step_u_suffixed : {n : ℕ} {a e : ExpressionTree} {m r : List Lexeme} → is_sign s.Minus (head ts) ≡ false
      → stepping (head ts) ≡ None → Limited (primary (nested d) ts) d n a m → length r ≤ length m
      → after_operand a m ≡ Ok (e, r)
      → Limited (unary (nested d) ts) d n e r
  unfolding unary postfix
  step_u_suffixed h o a short p = same {S = primary (nested d) ts >>= λ x. after_operand x.0 x.1} (rw (h, o) refl) (then _ a short p)

  pub step_primary : {n : ℕ} {e : ExpressionTree} {r : List Lexeme} → Limited (atom (nested d) ts) d n e r
      → Owned (primary (nested d) ts) d n e r
  unfolding primary
  step_primary a = owner_begins a

module _ (d : ℕ) (m : List Lexeme) where
  pub step_n1_not : {n : ℕ} (p : Position) {e : ExpressionTree} {r : List Lexeme}
      → Limited (nested d negation (suc (length m)) m) d n e r
      → Limited (logical_operand (nested d) (sign s.Not p ∷ m)) d n (prefixed op.Not e) r
  unfolding logical_operand
  step_n1_not p a = then _ a (omega arith) refl

  pub step_n4_complement : {n : ℕ} (p : Position) {e : ExpressionTree} {r : List Lexeme}
      → Limited (nested d complement (suc (length m)) m) d n e r → Limited (factor (nested d) (sign s.Tilde p ∷ m)) d n
      (prefixed op.Complement e) r
  unfolding factor
  step_n4_complement p a = then _ a (omega arith) refl

  pub step_e5_index : {n : ℕ} (p : Position) (t : Lexeme) (f : List ℕ) (width : Width) {e : ExpressionTree} {r : List
      Lexeme} → indexing t ≡ Some width → Limited (unary (nested d) m) d n e r
      → Limited (array_entry (nested d) (name f p ∷ t ∷ m)) d n (index (record { text = f; position = p }) width e) r
  unfolding array_entry array_at
  step_e5_index p t f width o a =
      same {S = unary (nested d) m >>= λ x. Ok (index (record { text = f; position = p }) width x.0, x.1)}
      (rw o refl) (then _ a (omega arith) refl)

  pub step_u_minus : {n : ℕ} (p : Position) {e : ExpressionTree} {r : List Lexeme} → Limited (nested d prefix (suc (length m)) m) d n e r
      → Limited (unary (nested d) (sign s.Minus p ∷ m)) d n (prefixed op.Minus e) r
  unfolding unary
  step_u_minus p a = then _ a (omega arith) refl

  pub step_u_before : {n : ℕ} (t : Lexeme) (op : Step) {e : ExpressionTree} {r : List Lexeme} → stepping t ≡ Some op
      → Limited (nested d operand (suc (length m)) m) d n e r → Limited (unary (nested d) (t ∷ m)) d n
      (step_before op (position_of t) e) r
  unfolding unary
  step_u_before t op o a = same {S = nested d operand (suc (length m)) m >>= λ x. Ok (step_before op (position_of t) x.0, x.1)}
      (rw (stepping_only t op o, o) refl) (then _ a (omega arith) refl)

  pub step_p_number : (p : Position) (n : ℕ) → Limited (atom (nested d) (number n p ∷ m)) d 0 (constant n) m
  unfolding atom
  step_p_number p n = at_once refl

  pub step_p_character : (p : Position) (n : ℕ) → Limited (atom (nested d) (character n p ∷ m)) d 0 (constant n) m
  unfolding atom
  step_p_character p n = at_once refl

  pub step_p_word : (p : Position) (f : List ℕ) → Limited (atom (nested d) (dictionary_word f p ∷ m)) d 0 (word f) m
  unfolding atom
  step_p_word p f = at_once refl

  pub step_p_true : (p : Position) → Limited (atom (nested d) (reserved w.True p ∷ m)) d 0 (constant 1) m
  unfolding atom
  step_p_true p = at_once refl

  pub step_p_false : (p : Position) → Limited (atom (nested d) (reserved w.False p ∷ m)) d 0 (constant 0) m
  unfolding atom
  step_p_false p = at_once refl

  pub step_p_nothing : (p : Position) → Limited (atom (nested d) (reserved w.Nothing p ∷ m)) d 0 (constant 0) m
  unfolding atom
  step_p_nothing p = at_once refl

  pub step_p_name : (p : Position) (f : List ℕ) → Stops 8 m
      → Limited (atom (nested d) (name f p ∷ m)) d 0 (named (record { text = f; position = p })) m
  unfolding atom after_name
  step_p_name p f st = at_once (rw (parenthesis_stops (head m) st) refl)

  pub step_p_parenthesised : {n : ℕ} (p : Position) {o : Position} {e : ExpressionTree} {r : List Lexeme}
      → Limited (nested d whole (suc (length m)) m) d n e (sign s.CloseParenthesis o ∷ r)
      → Limited (atom (nested d) (sign s.OpenParenthesis p ∷ m)) d n (parenthesised e) r
  unfolding atom in_parentheses expect
  step_p_parenthesised p a = then _ a (omega arith) refl

  pub step_p_relative : {n : ℕ} (t : Lexeme) (which : Relative) (p : Position) {o : Position} {e : ExpressionTree}
      {r : List Lexeme} → relating t ≡ Some which → Limited (nested d whole (suc (length m)) m) d n e (sign s.CloseParenthesis o ∷ r)
      → Limited (atom (nested d) (t ∷ sign s.OpenParenthesis p ∷ m)) d n (relative_of which e) r
  unfolding atom object_relative expect
  step_p_relative (reserved v q) which p h a = same {S = nested d whole (suc (length m)) m >>= λ x. expect s.CloseParenthesis x.1
      >>= λ u. Ok (relative_of which x.0, u)} (rw h refl) (then _ a (omega arith) refl)
  step_p_relative _ which p h a = absurd cc

  pub step_p_call : {n : ℕ} (p q : Position) (f : List ℕ) {e : ExpressionTree} {r : List Lexeme}
      → Limited (nested d (arguments (record { text = f; position = p })) (suc (length m)) m) d n e r
      → Limited (atom (nested d) (name f p ∷ sign s.OpenParenthesis q ∷ m)) d n e r
  unfolding atom after_name
  step_p_call p q f a = same refl a

  pub step_called_none : (o : Position) (f : NameTree)
      → Limited (rest_of_call (nested d) f (sign s.CloseParenthesis o ∷ m)) d 0 (call f none) m
  unfolding rest_of_call
  step_called_none o f = at_once refl

  pub step_called : {n : ℕ} {o : Position} {r : List Lexeme} (f : NameTree) (es : ExpressionTrees)
      → is_sign s.CloseParenthesis (head m) ≡ false
      → Limited (list (is_sign s.Comma) (expression (nested d)) m) d n (list_of es) (sign s.CloseParenthesis o ∷ r)
      → Limited (rest_of_call (nested d) f m) d n (call f es) r
  unfolding rest_of_call expect
  step_called {r = r} f es h a =
      same {S = list (is_sign s.Comma) (expression (nested d)) m >>= λ x. expect s.CloseParenthesis x.1
      >>= λ u. Ok (call f (trees_of x.0), u)} (rw h refl) (then _ a (omega arith) (rw (trees_back es) refl))
