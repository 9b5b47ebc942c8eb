-- What the tokens of an expression weigh, as its tree does.
use Rattle.std.proofs.Common.{◌≡◌, ℕ, ◌+◌, List, ◌∷◌, Some, refl, arith}
use Rattle.syntax_lexer.specs.declared.token.Position.{Position}
use Rattle.syntax_lexer.specs.declared.token.Sign.TheVariants as s
use Rattle.syntax_lexer.specs.declared.token.Word.TheVariants as w
use Rattle.syntax_lexer.specs.Token.{Lexeme, name, number, text, character, dictionary_word, reserved, sign}
use Rattle.syntax_trees.specs.declared.tree.Binary.{Binary}
use Rattle.syntax_trees.specs.declared.tree.Comparison.{Comparison}
use Rattle.syntax_trees.specs.declared.tree.Containment.{Containment}
use Rattle.syntax_trees.specs.declared.tree.Equality.{Equality}
use Rattle.syntax_trees.specs.declared.tree.ObjectTest.{ObjectTest}
use Rattle.syntax_trees.specs.declared.tree.Relative.{Relative}
use Rattle.syntax_trees.specs.declared.tree.Step.{Step}
use Rattle.syntax_trees.specs.declared.tree.Width.{Width}
use Rattle.syntax_trees.specs.Tree.{NameTree, ExpressionTree, ExpressionTrees, call}
use Rattle.syntax_expressions.specs.Operators.{logical, comparing, equating, containing, testing, adding, scaling}
use Rattle.syntax_expressions.specs.Operators.{stepping, indexing, relating}
use Rattle.syntax_expressions.specs.Grammar.{IsE, e_plain, e_assign, IsE1, e1_plain, e1_logical, IsN1, n1_plain, n1_not}
use Rattle.syntax_expressions.specs.Grammar.{IsE2, e2_plain, e2_compare, e2_equal, e2_contained, e2_tested, IsChoice}
use Rattle.syntax_expressions.specs.Grammar.{choice_last, choice_or, IsE3, e3_plain, e3_add, IsE4, e4_plain, e4_scale}
use Rattle.syntax_expressions.specs.Grammar.{IsN4, n4_plain, n4_complement, IsE5, e5_plain, e5_index, e5_entry, IsU}
use Rattle.syntax_expressions.specs.Grammar.{u_plain, u_minus, u_before, u_after, u_length, IsP, p_property, p_number}
use Rattle.syntax_expressions.specs.Grammar.{p_character, p_word, p_true, p_false, p_nothing, p_name, p_call}
use Rattle.syntax_expressions.specs.Grammar.{p_call_with, p_relative, p_parenthesised, IsArguments, arguments_last}
use Rattle.syntax_expressions.specs.Grammar.{arguments_comma}
use Rattle.syntax_directives.specs.Grammar.{token_weight}
use Rattle.syntax_directives.specs.Weight.{expression_weight, expression_weights}
use Rattle.syntax_directives.proofs.Spelled.{Spelled, spelled_none, after, joined, weighing}

-- ---- operators

logical_weight : (t : Lexeme) (op : Binary) → logical t ≡ Some op → token_weight t ≡ 32
logical_weight (sign s p) op e = refl
logical_weight _ op e = absurd cc

comparing_weight : (t : Lexeme) (op : Comparison) → comparing t ≡ Some op → token_weight t ≡ 32
comparing_weight (sign s p) op e = refl
comparing_weight _ op e = absurd cc

equating_weight : (t : Lexeme) (op : Equality) → equating t ≡ Some op → token_weight t ≡ 32
equating_weight (sign s p) op e = refl
equating_weight _ op e = absurd cc

adding_weight : (t : Lexeme) (op : Binary) → adding t ≡ Some op → token_weight t ≡ 32
adding_weight (sign s p) op e = refl
adding_weight _ op e = absurd cc

scaling_weight : (t : Lexeme) (op : Binary) → scaling t ≡ Some op → token_weight t ≡ 32
scaling_weight (sign s p) op e = refl
scaling_weight _ op e = absurd cc

stepping_weight : (t : Lexeme) (op : Step) → stepping t ≡ Some op → token_weight t ≡ 32
stepping_weight (sign s p) op e = refl
stepping_weight _ op e = absurd cc

indexing_weight : (t : Lexeme) (width : Width) → indexing t ≡ Some width → token_weight t ≡ 32
indexing_weight (sign s p) width e = refl
indexing_weight _ width e = absurd cc

containing_weight : (t : Lexeme) (op : Containment) → containing t ≡ Some op → token_weight t ≡ 32
containing_weight (reserved word p) op e = refl
containing_weight _ op e = absurd cc

testing_weight : (t : Lexeme) (test : ObjectTest) → testing t ≡ Some test → token_weight t ≡ 32
testing_weight (reserved word p) test e = refl
testing_weight _ test e = absurd cc

relating_weight : (t : Lexeme) (which : Relative) → relating t ≡ Some which → token_weight t ≡ 32
relating_weight (reserved word p) which e = refl
relating_weight _ which e = absurd cc

-- ---- expressions

-- a sign or word and a name, after a part
spelled_name : {w : ℕ} {ts r : List Lexeme} {p : Position} {n : List ℕ} (t : Lexeme) → token_weight t ≡ 32
    → Spelled w ts (t ∷ name n p ∷ r) → Spelled (w + 64) ts r
spelled_name {r = r} {p = p} {n = n} t h a = weighing
    (joined a (after t (after (name n p) (spelled_none r)))) (omega (arith, h))

call_weight : {ts r : List Lexeme} {es : ExpressionTrees} (n : NameTree) → IsArguments ts es r
    → expression_weight (call n es) ≡ 64 + expression_weights es
call_weight n (arguments_last a) = refl
call_weight n (arguments_comma a b) = refl

mutual
  pub spelled_E : {ts r : List Lexeme} {e : ExpressionTree} → IsE ts e r → Spelled (expression_weight e) ts r
  spelled_E (e_plain a) = spelled_E1 a
  spelled_E (e_assign {p = p} a b) = weighing (joined (spelled_E1 a) (after (sign s.Assign p) (spelled_E b)))
      (omega arith)

  pub spelled_E1 : {ts r : List Lexeme} {e : ExpressionTree} → IsE1 ts e r → Spelled (expression_weight e) ts r
  spelled_E1 (e1_plain a) = spelled_N1 a
  spelled_E1 (e1_logical {t = t} {op = op} a o b) = weighing (joined (spelled_E1 a) (after t (spelled_N1 b)))
      (omega (arith, logical_weight t op o))

  pub spelled_N1 : {ts r : List Lexeme} {e : ExpressionTree} → IsN1 ts e r → Spelled (expression_weight e) ts r
  spelled_N1 (n1_plain a) = spelled_E2 a
  spelled_N1 (n1_not {p = p} a) = after (sign s.Not p) (spelled_N1 a)

  pub spelled_E2 : {ts r : List Lexeme} {e : ExpressionTree} → IsE2 ts e r → Spelled (expression_weight e) ts r
  spelled_E2 (e2_plain a) = spelled_E3 a
  spelled_E2 (e2_compare {t = t} {op = op} a o b) = weighing (joined (spelled_E3 a) (after t (spelled_E3 b)))
      (omega (arith, comparing_weight t op o))
  spelled_E2 (e2_equal {t = t} {op = op} a o b) = joined (spelled_E3 a) (spelled_Choice t (equating_weight t op o) b)
  spelled_E2 (e2_contained {t = t} {op = op} a o b) = weighing (joined (spelled_E3 a) (after t (spelled_E3 b)))
      (omega (arith, containing_weight t op o))
  spelled_E2 (e2_tested {t = t} {test = test} a o) = spelled_name t (testing_weight t test o) (spelled_E3 a)

  -- with the operator or the `or` before the first value
  spelled_Choice : {ts r : List Lexeme} {es : ExpressionTrees} (t : Lexeme) → token_weight t ≡ 32 → IsChoice ts es r
      → Spelled (expression_weights es) (t ∷ ts) r
  spelled_Choice t h (choice_last a) = weighing (after t (spelled_E3 a)) (omega (arith, h))
  spelled_Choice t h (choice_or {p = p} a b) = weighing
      (after t (joined (spelled_E3 a) (spelled_Choice (reserved w.Or p) refl b))) (omega (arith, h))

  pub spelled_E3 : {ts r : List Lexeme} {e : ExpressionTree} → IsE3 ts e r → Spelled (expression_weight e) ts r
  spelled_E3 (e3_plain a) = spelled_E4 a
  spelled_E3 (e3_add {t = t} {op = op} a o b) = weighing (joined (spelled_E3 a) (after t (spelled_E4 b)))
      (omega (arith, adding_weight t op o))

  pub spelled_E4 : {ts r : List Lexeme} {e : ExpressionTree} → IsE4 ts e r → Spelled (expression_weight e) ts r
  spelled_E4 (e4_plain a) = spelled_N4 a
  spelled_E4 (e4_scale {t = t} {op = op} a o b) = weighing (joined (spelled_E4 a) (after t (spelled_N4 b)))
      (omega (arith, scaling_weight t op o))

  pub spelled_N4 : {ts r : List Lexeme} {e : ExpressionTree} → IsN4 ts e r → Spelled (expression_weight e) ts r
  spelled_N4 (n4_plain a) = spelled_E5 a
  spelled_N4 (n4_complement {p = p} a) = after (sign s.Tilde p) (spelled_N4 a)

  pub spelled_E5 : {ts r : List Lexeme} {e : ExpressionTree} → IsE5 ts e r → Spelled (expression_weight e) ts r
  spelled_E5 (e5_plain a) = spelled_U a
  spelled_E5 (e5_index {p = p} {t = t} {n = n} {width = width} o a) = weighing
      (after (name n p) (after t (spelled_U a))) (omega (arith, indexing_weight t width o))
  spelled_E5 (e5_entry {p = p} {q = q} {o = o} {n = n} a b) = weighing
      (joined (spelled_P a)
      (after (sign s.DotAmpersand q) (after (name n p) (after (sign s.LongArrow o) (spelled_U b))))) (omega arith)

  pub spelled_U : {ts r : List Lexeme} {e : ExpressionTree} → IsU ts e r → Spelled (expression_weight e) ts r
  spelled_U (u_plain a) = spelled_P a
  spelled_U (u_minus {p = p} a) = after (sign s.Minus p) (spelled_U a)
  spelled_U (u_before {t = t} {op = op} o a) = weighing (after t (spelled_P a))
      (omega (arith, stepping_weight t op o))
  spelled_U (u_after {r = r} {t = t} {op = op} a o) = weighing (joined (spelled_P a) (after t (spelled_none r)))
      (omega (arith, stepping_weight t op o))
  spelled_U (u_length {q = q} a) = spelled_name (sign s.DotHash q) refl (spelled_P a)

  pub spelled_P : {ts r : List Lexeme} {e : ExpressionTree} → IsP ts e r → Spelled (expression_weight e) ts r
  spelled_P (p_property {q = q} a) = spelled_name (sign s.Dot q) refl (spelled_P a)
  spelled_P (p_number {r = r} {p = p} {n = n}) = after (number n p) (spelled_none r)
  spelled_P (p_character {r = r} {p = p} {c = c}) = after (character c p) (spelled_none r)
  spelled_P (p_word {r = r} {p = p} {s = f}) = after (dictionary_word f p) (spelled_none r)
  spelled_P (p_true {r = r} {p = p}) = after (reserved w.True p) (spelled_none r)
  spelled_P (p_false {r = r} {p = p}) = after (reserved w.False p) (spelled_none r)
  spelled_P (p_nothing {r = r} {p = p}) = after (reserved w.Nothing p) (spelled_none r)
  spelled_P (p_name {r = r} {p = p} {n = n}) = after (name n p) (spelled_none r)
  spelled_P (p_call {r = r} {p = p} {q = q} {o = o} {n = n}) = after (name n p)
      (after (sign s.OpenParenthesis q) (after (sign s.CloseParenthesis o) (spelled_none r)))
  spelled_P (p_call_with {r = r} {p = p} {q = q} {o = o} {n = n} a) = weighing
      (after (name n p)
      (joined (spelled_Arguments (sign s.OpenParenthesis q) refl a)
      (after (sign s.CloseParenthesis o) (spelled_none r))))
      (omega (arith, call_weight (record { text = n; position = p }) a))
  spelled_P (p_relative {r = r} {p = p} {o = o} {t = t} {which = which} h a) = weighing
      (after t
      (after (sign s.OpenParenthesis p)
      (joined (spelled_E a) (after (sign s.CloseParenthesis o) (spelled_none r)))))
      (omega (arith, relating_weight t which h))
  spelled_P (p_parenthesised {r = r} {p = p} {o = o} a) = weighing
      (after (sign s.OpenParenthesis p)
      (joined (spelled_E a) (after (sign s.CloseParenthesis o) (spelled_none r)))) (omega arith)

  -- with the parenthesis or the comma before the first argument
  spelled_Arguments : {ts r : List Lexeme} {es : ExpressionTrees} (t : Lexeme) → token_weight t ≡ 32
      → IsArguments ts es r → Spelled (expression_weights es) (t ∷ ts) r
  spelled_Arguments t h (arguments_last a) = weighing (after t (spelled_E a)) (omega (arith, h))
  spelled_Arguments t h (arguments_comma {p = p} a b) = weighing
      (after t (joined (spelled_E a) (spelled_Arguments (sign s.Comma p) refl b))) (omega (arith, h))
