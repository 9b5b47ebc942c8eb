-- The tokens at the two ends of a statement and of what `print` prints.
use Rattle.std.proofs.Common.{◌≡◌, ◌&&◌, ◌<◌, ◌≤◌, Bool, true, false, List, length, Option, Some, refl, arith}
use Rattle.syntax_lexer.specs.declared.token.Sign.TheVariants as s
use Rattle.syntax_lexer.specs.declared.token.Word.TheVariants as w
use Rattle.syntax_lexer.specs.Token.{Lexeme, reserved, sign}
use Rattle.syntax_trees.specs.declared.tree.Relative.{Relative}
use Rattle.syntax_trees.specs.declared.tree.Step.{Step}
use Rattle.syntax_trees.specs.Tree.{ExpressionTree}
use Rattle.syntax_trees.specs.Parse.{head, tail, is_sign, is_word}
use Rattle.syntax_expressions.specs.Operators.{stepping, relating, begins_expression}
use Rattle.syntax_expressions.specs.Grammar.{IsE, e_plain, e_assign, IsE1, e1_plain, e1_logical, IsN1, n1_plain, n1_not}
use Rattle.syntax_expressions.specs.Grammar.{IsE2, e2_plain, e2_compare, e2_equal, e2_contained, e2_tested, IsE3}
use Rattle.syntax_expressions.specs.Grammar.{e3_plain, e3_add, IsE4, e4_plain, e4_scale, IsN4, n4_plain, n4_complement}
use Rattle.syntax_expressions.specs.Grammar.{IsE5, e5_plain, e5_index, e5_entry, IsU, u_plain, u_minus, u_before}
use Rattle.syntax_expressions.specs.Grammar.{u_after, u_length, IsP, p_property, p_number, p_character, p_word, p_true}
use Rattle.syntax_expressions.specs.Grammar.{p_false, p_nothing, p_name, p_call, p_call_with, p_relative}
use Rattle.syntax_expressions.specs.Grammar.{p_parenthesised}
use Rattle.syntax_expressions.proofs.Begins.{first_E}
use Rattle.syntax_expressions.proofs.Short.{short_E}
use Rattle.syntax_statements.specs.PartTree.{PrintItemTree, FlagTree}
use Rattle.syntax_statements.specs.PartGrammar.{IsOptional, optional_none, optional_some, IsItem, item_text}
use Rattle.syntax_statements.specs.PartGrammar.{item_character, item_number, IsItems, items_last, items_comma}
use Rattle.syntax_statements.specs.PartGrammar.{item_object, IsFlag, flag_given, flag_taken, IsFlags, flags_none}
use Rattle.syntax_statements.specs.PartGrammar.{flags_next, IsGiven, given_first}
use Rattle.syntax_statements.specs.Tree.{StatementTree, StatementTrees, CaseTrees}
use Rattle.syntax_statements.specs.Grammar.{IsS, s_empty, s_block, s_text, s_print, s_print_ret, s_new_line, s_if}
use Rattle.syntax_statements.specs.Grammar.{s_if_else, s_while, s_do, s_for, s_switch, s_break, s_continue, s_return}
use Rattle.syntax_statements.specs.Grammar.{s_return_value, s_rtrue, s_rfalse, s_quit, s_read, s_effect, IsSs, ss_stop}
use Rattle.syntax_statements.specs.Grammar.{ss_next, IsCases, cases_none, cases_default, cases_next, s_give, s_move}
use Rattle.syntax_statements.specs.Grammar.{s_remove, s_objectloop}
use Rattle.syntax_statements.proofs.KnownValues.{short_Ranges}
use Rattle.syntax_statements.proofs.LoopHeads.{short_Loop}

-- ---- each derivation takes a token

pub short_Item : {ts r : List Lexeme} {i : PrintItemTree} → IsItem ts i r → length r < length ts
short_Item item_text = omega arith
short_Item (item_character a) = omega (arith, short_E a)
short_Item (item_object a) = omega (arith, short_E a)
short_Item (item_number a) = short_E a

pub short_Items : {ts r : List Lexeme} {is : List PrintItemTree} → IsItems ts is r → length r < length ts
short_Items (items_last a) = short_Item a
short_Items (items_comma a b) = omega (arith, short_Item a, short_Items b)

pub short_Optional : {ts r : List Lexeme} {e : Option ExpressionTree} → IsOptional ts e r → length r ≤ length ts
short_Optional optional_none = omega arith
short_Optional (optional_some a) = omega (arith, short_E a)

pub short_Flag : {ts r : List Lexeme} {x : FlagTree} → IsFlag ts x r → length r < length ts
short_Flag flag_given = omega arith
short_Flag flag_taken = omega arith

pub short_Flags : {ts r : List Lexeme} {xs : List FlagTree} → IsFlags ts xs r → length r ≤ length ts
short_Flags flags_none = omega arith
short_Flags (flags_next a b) = omega (arith, short_Flag a, short_Flags b)

pub short_Given : {ts r : List Lexeme} {xs : List FlagTree} → IsGiven ts xs r → length r < length ts
short_Given (given_first a b) = omega (arith, short_Flag a, short_Flags b)

mutual
  pub short_S : {ts r : List Lexeme} {x : StatementTree} → IsS ts x r → length r < length ts
  short_S s_empty = omega arith
  short_S (s_block a) = omega (arith, short_Ss a)
  short_S s_text = omega arith
  short_S (s_print a) = omega (arith, short_Items a)
  short_S (s_print_ret a) = omega (arith, short_Items a)
  short_S s_new_line = omega arith
  short_S (s_if c a e) = omega (arith, short_E c, short_S a)
  short_S (s_if_else c a b) = omega (arith, short_E c, short_S a, short_S b)
  short_S (s_while c a) = omega (arith, short_E c, short_S a)
  short_S (s_do a c) = omega (arith, short_S a, short_E c)
  short_S (s_for a f b c g x) = omega (arith, short_Optional a, short_Optional b, short_Optional c, short_S x)
  short_S (s_objectloop a x) = omega (arith, short_Loop a, short_S x)
  short_S (s_switch e a) = omega (arith, short_E e, short_Cases a)
  short_S s_break = omega arith
  short_S s_continue = omega arith
  short_S s_return = omega arith
  short_S (s_return_value c) = omega (arith, short_E c)
  short_S s_rtrue = omega arith
  short_S s_rfalse = omega arith
  short_S s_quit = omega arith
  short_S s_read = omega arith
  short_S (s_give c a) = omega (arith, short_E c, short_Given a)
  short_S (s_move a b) = omega (arith, short_E a, short_E b)
  short_S (s_remove c) = omega (arith, short_E c)
  short_S (s_effect c f) = omega (arith, short_E c)

  pub short_Ss : {ts r : List Lexeme} {xs : StatementTrees} → IsSs ts xs r → length r ≤ length ts
  short_Ss ss_stop = omega arith
  short_Ss (ss_next a b) = omega (arith, short_S a, short_Ss b)

  pub short_Cases : {ts r : List Lexeme} {cs : CaseTrees} → IsCases ts cs r → length r ≤ length ts
  short_Cases cases_none = omega arith
  short_Cases (cases_default a) = omega (arith, short_Ss a)
  short_Cases (cases_next g a b) = omega (arith, short_Ranges g, short_Ss a, short_Cases b)

-- ---- tokens with which parts begin

-- after a parenthesis an expression begins
pub stepping_opens : (t : Lexeme) (op : Step) → stepping t ≡ Some op → is_sign s.OpenParenthesis t ≡ false
stepping_opens (sign s.OpenParenthesis p) op e = absurd cc
stepping_opens _ op e = refl

pub relating_opens : (t : Lexeme) (which : Relative) → relating t ≡ Some which → is_sign s.OpenParenthesis t ≡ false
relating_opens (sign s.OpenParenthesis p) which e = absurd cc
relating_opens _ which e = refl

pub second_P : {ts r : List Lexeme} {e : ExpressionTree} → IsP ts e r → is_sign s.OpenParenthesis (head ts) ≡ true
    → begins_expression (head (tail ts)) ≡ true
second_P (p_property a) h = second_P a h
second_P p_number h = absurd cc
second_P p_character h = absurd cc
second_P p_word h = absurd cc
second_P p_true h = absurd cc
second_P p_false h = absurd cc
second_P p_nothing h = absurd cc
second_P p_name h = absurd cc
second_P p_call h = absurd cc
second_P (p_call_with a) h = absurd cc
second_P (p_relative {t = t} {which = which} o a) h = let no = relating_opens t which o in absurd cc
second_P (p_parenthesised a) h = first_E a

pub second_U : {ts r : List Lexeme} {e : ExpressionTree} → IsU ts e r → is_sign s.OpenParenthesis (head ts) ≡ true
    → begins_expression (head (tail ts)) ≡ true
second_U (u_plain a) h = second_P a h
second_U (u_minus a) h = absurd cc
second_U (u_before {t = t} {op = op} o a) h = let no = stepping_opens t op o in absurd cc
second_U (u_after a o) h = second_P a h
second_U (u_length a) h = second_P a h

pub second_E5 : {ts r : List Lexeme} {e : ExpressionTree} → IsE5 ts e r → is_sign s.OpenParenthesis (head ts) ≡ true
    → begins_expression (head (tail ts)) ≡ true
second_E5 (e5_plain a) h = second_U a h
second_E5 (e5_index o a) h = absurd cc
second_E5 (e5_entry a b) h = second_P a h

pub second_N4 : {ts r : List Lexeme} {e : ExpressionTree} → IsN4 ts e r → is_sign s.OpenParenthesis (head ts) ≡ true
    → begins_expression (head (tail ts)) ≡ true
second_N4 (n4_plain a) h = second_E5 a h
second_N4 (n4_complement a) h = absurd cc

pub second_E4 : {ts r : List Lexeme} {e : ExpressionTree} → IsE4 ts e r → is_sign s.OpenParenthesis (head ts) ≡ true
    → begins_expression (head (tail ts)) ≡ true
second_E4 (e4_plain a) h = second_N4 a h
second_E4 (e4_scale a o b) h = second_E4 a h

pub second_E3 : {ts r : List Lexeme} {e : ExpressionTree} → IsE3 ts e r → is_sign s.OpenParenthesis (head ts) ≡ true
    → begins_expression (head (tail ts)) ≡ true
second_E3 (e3_plain a) h = second_E4 a h
second_E3 (e3_add a o b) h = second_E3 a h

pub second_E2 : {ts r : List Lexeme} {e : ExpressionTree} → IsE2 ts e r → is_sign s.OpenParenthesis (head ts) ≡ true
    → begins_expression (head (tail ts)) ≡ true
second_E2 (e2_plain a) h = second_E3 a h
second_E2 (e2_compare a o b) h = second_E3 a h
second_E2 (e2_equal a o b) h = second_E3 a h
second_E2 (e2_contained a o b) h = second_E3 a h
second_E2 (e2_tested a o) h = second_E3 a h

pub second_N1 : {ts r : List Lexeme} {e : ExpressionTree} → IsN1 ts e r → is_sign s.OpenParenthesis (head ts) ≡ true
    → begins_expression (head (tail ts)) ≡ true
second_N1 (n1_plain a) h = second_E2 a h
second_N1 (n1_not a) h = absurd cc

pub second_E1 : {ts r : List Lexeme} {e : ExpressionTree} → IsE1 ts e r → is_sign s.OpenParenthesis (head ts) ≡ true
    → begins_expression (head (tail ts)) ≡ true
second_E1 (e1_plain a) h = second_N1 a h
second_E1 (e1_logical a o b) h = second_E1 a h

pub second_E : {ts r : List Lexeme} {e : ExpressionTree} → IsE ts e r → is_sign s.OpenParenthesis (head ts) ≡ true
    → begins_expression (head (tail ts)) ≡ true
second_E (e_plain a) h = second_E1 a h
second_E (e_assign a b) h = second_E1 a h

-- `char` begins no expression
pub no_character : (t : Lexeme) → begins_expression t ≡ true → is_word w.Char t ≡ false
no_character (reserved w.Char p) e = absurd cc
no_character _ e = refl

-- nor does `object`
pub no_object : (t : Lexeme) → begins_expression t ≡ true → is_word w.Object t ≡ false
no_object (reserved w.Object p) e = absurd cc
no_object _ e = refl

pub either : (a b : Bool) → (a ≡ true → b ≡ false) → (a && b) ≡ false
either true b h = h refl
either false b h = refl

pub no_cast : {ts r : List Lexeme} {e : ExpressionTree} → IsE ts e r
    → (is_sign s.OpenParenthesis (head ts) && is_word w.Char (head (tail ts))) ≡ false
no_cast {ts} a = either (is_sign s.OpenParenthesis (head ts)) (is_word w.Char (head (tail ts)))
    (λ h. no_character (head (tail ts)) (second_E a h))

pub no_object_cast : {ts r : List Lexeme} {e : ExpressionTree} → IsE ts e r
    → (is_sign s.OpenParenthesis (head ts) && is_word w.Object (head (tail ts))) ≡ false
no_object_cast {ts} a = either (is_sign s.OpenParenthesis (head ts)) (is_word w.Object (head (tail ts)))
    (λ h. no_object (head (tail ts)) (second_E a h))
