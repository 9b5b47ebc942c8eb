-- Each derivation of an expression takes a token.
use Rattle.std.proofs.Common.{◌<◌, List, length, arith}
use Rattle.syntax_lexer.specs.Token.{Lexeme}
use Rattle.syntax_trees.specs.Tree.{ExpressionTree, ExpressionTrees}
use Rattle.syntax_expressions.specs.Grammar.{IsE, e_plain, e_assign, IsE1, e1_plain, e1_logical, IsN1, n1_plain, n1_not}
use Rattle.syntax_expressions.specs.Grammar.{IsE2, e2_plain, e2_compare, e2_equal, e2_contained, e2_tested, IsChoice}
use Rattle.syntax_expressions.specs.Grammar.{choice_last, choice_or, IsE3, e3_plain, e3_add, IsE4, e4_plain, e4_scale}
use Rattle.syntax_expressions.specs.Grammar.{IsN4, n4_plain, n4_complement, IsE5, e5_plain, e5_index, e5_entry, IsU}
use Rattle.syntax_expressions.specs.Grammar.{u_plain, u_minus, u_before, u_after, u_length, IsP, p_property, p_number}
use Rattle.syntax_expressions.specs.Grammar.{p_character, p_word, p_true, p_false, p_nothing, p_name, p_call}
use Rattle.syntax_expressions.specs.Grammar.{p_call_with, p_relative, p_parenthesised, IsArguments, arguments_last}
use Rattle.syntax_expressions.specs.Grammar.{arguments_comma}

mutual
  pub short_E : {ts r : List Lexeme} {e : ExpressionTree} → IsE ts e r → length r < length ts
  short_E (e_plain a) = short_E1 a
  short_E (e_assign a b) = omega (arith, short_E1 a, short_E b)

  pub short_E1 : {ts r : List Lexeme} {e : ExpressionTree} → IsE1 ts e r → length r < length ts
  short_E1 (e1_plain a) = short_N1 a
  short_E1 (e1_logical a o b) = omega (arith, short_E1 a, short_N1 b)

  pub short_N1 : {ts r : List Lexeme} {e : ExpressionTree} → IsN1 ts e r → length r < length ts
  short_N1 (n1_plain a) = short_E2 a
  short_N1 (n1_not a) = omega (arith, short_N1 a)

  pub short_E2 : {ts r : List Lexeme} {e : ExpressionTree} → IsE2 ts e r → length r < length ts
  short_E2 (e2_plain a) = short_E3 a
  short_E2 (e2_compare a o b) = omega (arith, short_E3 a, short_E3 b)
  short_E2 (e2_equal a o b) = omega (arith, short_E3 a, short_Choice b)
  short_E2 (e2_contained a o b) = omega (arith, short_E3 a, short_E3 b)
  short_E2 (e2_tested a o) = omega (arith, short_E3 a)

  pub short_Choice : {ts r : List Lexeme} {es : ExpressionTrees} → IsChoice ts es r → length r < length ts
  short_Choice (choice_last a) = short_E3 a
  short_Choice (choice_or a b) = omega (arith, short_E3 a, short_Choice b)

  pub short_E3 : {ts r : List Lexeme} {e : ExpressionTree} → IsE3 ts e r → length r < length ts
  short_E3 (e3_plain a) = short_E4 a
  short_E3 (e3_add a o b) = omega (arith, short_E3 a, short_E4 b)

  pub short_E4 : {ts r : List Lexeme} {e : ExpressionTree} → IsE4 ts e r → length r < length ts
  short_E4 (e4_plain a) = short_N4 a
  short_E4 (e4_scale a o b) = omega (arith, short_E4 a, short_N4 b)

  pub short_N4 : {ts r : List Lexeme} {e : ExpressionTree} → IsN4 ts e r → length r < length ts
  short_N4 (n4_plain a) = short_E5 a
  short_N4 (n4_complement a) = omega (arith, short_N4 a)

  pub short_E5 : {ts r : List Lexeme} {e : ExpressionTree} → IsE5 ts e r → length r < length ts
  short_E5 (e5_plain a) = short_U a
  short_E5 (e5_index o a) = omega (arith, short_U a)
  short_E5 (e5_entry a b) = omega (arith, short_P a, short_U b)

  pub short_U : {ts r : List Lexeme} {e : ExpressionTree} → IsU ts e r → length r < length ts
  short_U (u_plain a) = short_P a
  short_U (u_minus a) = omega (arith, short_U a)
  short_U (u_before o a) = omega (arith, short_P a)
  short_U (u_after a o) = omega (arith, short_P a)
  short_U (u_length a) = omega (arith, short_P a)

  pub short_P : {ts r : List Lexeme} {e : ExpressionTree} → IsP ts e r → length r < length ts
  short_P (p_property a) = omega (arith, short_P a)
  short_P p_number = omega arith
  short_P p_character = omega arith
  short_P p_word = omega arith
  short_P p_true = omega arith
  short_P p_false = omega arith
  short_P p_nothing = omega arith
  short_P p_name = omega arith
  short_P p_call = omega arith
  short_P (p_call_with a) = omega (arith, short_Arguments a)
  short_P (p_relative o a) = omega (arith, short_E a)
  short_P (p_parenthesised a) = omega (arith, short_E a)

  pub short_Arguments : {ts r : List Lexeme} {es : ExpressionTrees} → IsArguments ts es r → length r < length ts
  short_Arguments (arguments_last a) = short_E a
  short_Arguments (arguments_comma a b) = omega (arith, short_E a, short_Arguments b)
