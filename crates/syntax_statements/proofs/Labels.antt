-- No statement begins as a case does: with a value, and `,`, `to` or `:` after it.
use Rattle.std.proofs.Common.{◌≡◌, false, List, [], ◌∷◌, Some, refl}
use Rattle.syntax_lexer.specs.declared.token.Position.{Position}
use Rattle.syntax_lexer.specs.declared.token.Sign.TheVariants as s
use Rattle.syntax_lexer.specs.declared.token.Word.TheVariants as w
use Rattle.syntax_lexer.specs.Token.{Lexeme, number, reserved, sign}
use Rattle.syntax_trees.specs.declared.tree.Binary.{Binary}
use Rattle.syntax_trees.specs.declared.tree.Comparison.{Comparison}
use Rattle.syntax_trees.specs.declared.tree.Equality.{Equality}
use Rattle.syntax_trees.specs.declared.tree.Containment.{Containment}
use Rattle.syntax_trees.specs.declared.tree.ObjectTest.{ObjectTest}
use Rattle.syntax_trees.specs.declared.tree.Relative.{Relative}
use Rattle.syntax_trees.specs.declared.tree.Step.{Step}
use Rattle.syntax_trees.specs.declared.tree.Width.{Width}
use Rattle.syntax_trees.specs.Tree.{ExpressionTree}
use Rattle.syntax_trees.specs.Parse.{head}
use Rattle.syntax_expressions.specs.Operators.{logical, comparing, equating, containing, testing, adding, scaling}
use Rattle.syntax_expressions.specs.Operators.{stepping, relating, indexing}
use Rattle.syntax_expressions.specs.Grammar.{IsE, e_plain, e_assign, IsE1, e1_plain, e1_logical, IsN1, n1_plain, n1_not}
use Rattle.syntax_expressions.specs.Grammar.{IsE2, e2_plain, e2_compare, e2_equal, e2_contained, e2_tested, IsE3}
use Rattle.syntax_expressions.specs.Grammar.{e3_plain, e3_add, IsE4, e4_plain, e4_scale, IsN4, n4_plain, n4_complement}
use Rattle.syntax_expressions.specs.Grammar.{IsE5, e5_plain, e5_index, e5_entry, IsU, u_plain, u_minus, u_before}
use Rattle.syntax_expressions.specs.Grammar.{u_after, u_length, IsP, p_property, p_number, p_character, p_word, p_true}
use Rattle.syntax_expressions.specs.Grammar.{p_false, p_nothing, p_name, p_call, p_call_with, p_relative}
use Rattle.syntax_expressions.specs.Grammar.{p_parenthesised}
use Rattle.syntax_statements.specs.PartNesting.{goes_on_in_case, begins_case}
use Rattle.syntax_statements.specs.Tree.{StatementTree}
use Rattle.syntax_statements.specs.Grammar.{IsS, s_empty, s_block, s_text, s_print, s_print_ret, s_new_line, s_if}
use Rattle.syntax_statements.specs.Grammar.{s_if_else, s_while, s_do, s_for, s_switch, s_break, s_continue, s_return}
use Rattle.syntax_statements.specs.Grammar.{s_return_value, s_rtrue, s_rfalse, s_quit, s_read, s_give, s_move, s_remove}
use Rattle.syntax_statements.specs.Grammar.{s_effect, s_objectloop}

-- ---- operators

no_logical : (t : Lexeme) (op : Binary) → logical t ≡ Some op → goes_on_in_case t ≡ false
no_logical (sign s.Comma p) op e = absurd cc
no_logical (sign s.Colon p) op e = absurd cc
no_logical (reserved w.To p) op e = absurd cc
no_logical _ op e = refl

no_comparing : (t : Lexeme) (op : Comparison) → comparing t ≡ Some op → goes_on_in_case t ≡ false
no_comparing (sign s.Comma p) op e = absurd cc
no_comparing (sign s.Colon p) op e = absurd cc
no_comparing (reserved w.To p) op e = absurd cc
no_comparing _ op e = refl

no_equating : (t : Lexeme) (op : Equality) → equating t ≡ Some op → goes_on_in_case t ≡ false
no_equating (sign s.Comma p) op e = absurd cc
no_equating (sign s.Colon p) op e = absurd cc
no_equating (reserved w.To p) op e = absurd cc
no_equating _ op e = refl

no_containing : (t : Lexeme) (op : Containment) → containing t ≡ Some op → goes_on_in_case t ≡ false
no_containing (sign s.Comma p) op e = absurd cc
no_containing (sign s.Colon p) op e = absurd cc
no_containing (reserved w.To p) op e = absurd cc
no_containing _ op e = refl

no_testing : (t : Lexeme) (test : ObjectTest) → testing t ≡ Some test → goes_on_in_case t ≡ false
no_testing (sign s.Comma p) test e = absurd cc
no_testing (sign s.Colon p) test e = absurd cc
no_testing (reserved w.To p) test e = absurd cc
no_testing _ test e = refl

no_adding : (t : Lexeme) (op : Binary) → adding t ≡ Some op → goes_on_in_case t ≡ false
no_adding (sign s.Comma p) op e = absurd cc
no_adding (sign s.Colon p) op e = absurd cc
no_adding (reserved w.To p) op e = absurd cc
no_adding _ op e = refl

no_scaling : (t : Lexeme) (op : Binary) → scaling t ≡ Some op → goes_on_in_case t ≡ false
no_scaling (sign s.Comma p) op e = absurd cc
no_scaling (sign s.Colon p) op e = absurd cc
no_scaling (reserved w.To p) op e = absurd cc
no_scaling _ op e = refl

no_stepping : (t : Lexeme) (op : Step) → stepping t ≡ Some op → goes_on_in_case t ≡ false
no_stepping (sign s.Comma p) op e = absurd cc
no_stepping (sign s.Colon p) op e = absurd cc
no_stepping (reserved w.To p) op e = absurd cc
no_stepping _ op e = refl

no_indexing : (t : Lexeme) (width : Width) → indexing t ≡ Some width → goes_on_in_case t ≡ false
no_indexing (sign s.Comma p) width e = absurd cc
no_indexing (sign s.Colon p) width e = absurd cc
no_indexing (reserved w.To p) width e = absurd cc
no_indexing _ width e = refl

-- ---- expressions

after_minus : (p : Position) (ts : List Lexeme) → begins_case ts ≡ false → begins_case (sign s.Minus p ∷ ts) ≡ false
unfolding begins_case
after_minus p [] e = refl
after_minus p (number n q ∷ ts) e = e
after_minus p (t ∷ ts) e = refl

after_step : (t : Lexeme) (op : Step) (ts : List Lexeme) → stepping t ≡ Some op → begins_case (t ∷ ts) ≡ false
unfolding begins_case
after_step (sign s.Increment p) op ts e = refl
after_step (sign s.Decrement p) op ts e = refl
after_step _ op ts e = absurd cc

after_relating : (t : Lexeme) (which : Relative) (ts : List Lexeme) → relating t ≡ Some which
    → begins_case (t ∷ ts) ≡ false
unfolding begins_case
after_relating (reserved w.Parent p) which ts e = refl
after_relating (reserved w.Child p) which ts e = refl
after_relating (reserved w.Sibling p) which ts e = refl
after_relating _ which ts e = absurd cc

case_P : {ts r : List Lexeme} {e : ExpressionTree} → IsP ts e r → goes_on_in_case (head r) ≡ false
    → begins_case ts ≡ false
unfolding begins_case
case_P (p_property a) h = case_P a refl
case_P p_number h = h
case_P p_character h = h
case_P p_word h = h
case_P p_true h = h
case_P p_false h = h
case_P p_nothing h = h
case_P p_name h = h
case_P p_call h = refl
case_P (p_call_with a) h = refl
case_P (p_relative {m = m} {p = p} {t = t} {which = which} o a) h = after_relating t which
    (sign s.OpenParenthesis p ∷ m) o
case_P (p_parenthesised a) h = refl

case_U : {ts r : List Lexeme} {e : ExpressionTree} → IsU ts e r → goes_on_in_case (head r) ≡ false
    → begins_case ts ≡ false
case_U (u_plain a) h = case_P a h
case_U (u_minus {m = m} {p = p} a) h = after_minus p m (case_U a h)
case_U (u_before {m = m} {t = t} {op = op} o a) h = after_step t op m o
case_U (u_after {t = t} {op = op} a o) h = case_P a (no_stepping t op o)
case_U (u_length a) h = case_P a refl

case_E5 : {ts r : List Lexeme} {e : ExpressionTree} → IsE5 ts e r → goes_on_in_case (head r) ≡ false
    → begins_case ts ≡ false
unfolding begins_case
case_E5 (e5_plain a) h = case_U a h
case_E5 (e5_index {t = t} {width = width} o a) h = no_indexing t width o
case_E5 (e5_entry a b) h = case_P a refl

case_N4 : {ts r : List Lexeme} {e : ExpressionTree} → IsN4 ts e r → goes_on_in_case (head r) ≡ false
    → begins_case ts ≡ false
unfolding begins_case
case_N4 (n4_plain a) h = case_E5 a h
case_N4 (n4_complement a) h = refl

case_E4 : {ts r : List Lexeme} {e : ExpressionTree} → IsE4 ts e r → goes_on_in_case (head r) ≡ false
    → begins_case ts ≡ false
case_E4 (e4_plain a) h = case_N4 a h
case_E4 (e4_scale {t = t} {op = op} a o b) h = case_E4 a (no_scaling t op o)

case_E3 : {ts r : List Lexeme} {e : ExpressionTree} → IsE3 ts e r → goes_on_in_case (head r) ≡ false
    → begins_case ts ≡ false
case_E3 (e3_plain a) h = case_E4 a h
case_E3 (e3_add {t = t} {op = op} a o b) h = case_E3 a (no_adding t op o)

case_E2 : {ts r : List Lexeme} {e : ExpressionTree} → IsE2 ts e r → goes_on_in_case (head r) ≡ false
    → begins_case ts ≡ false
case_E2 (e2_plain a) h = case_E3 a h
case_E2 (e2_compare {t = t} {op = op} a o b) h = case_E3 a (no_comparing t op o)
case_E2 (e2_equal {t = t} {op = op} a o b) h = case_E3 a (no_equating t op o)
case_E2 (e2_contained {t = t} {op = op} a o b) h = case_E3 a (no_containing t op o)
case_E2 (e2_tested {t = t} {test = test} a o) h = case_E3 a (no_testing t test o)

case_N1 : {ts r : List Lexeme} {e : ExpressionTree} → IsN1 ts e r → goes_on_in_case (head r) ≡ false
    → begins_case ts ≡ false
unfolding begins_case
case_N1 (n1_plain a) h = case_E2 a h
case_N1 (n1_not a) h = refl

case_E1 : {ts r : List Lexeme} {e : ExpressionTree} → IsE1 ts e r → goes_on_in_case (head r) ≡ false
    → begins_case ts ≡ false
case_E1 (e1_plain a) h = case_N1 a h
case_E1 (e1_logical {t = t} {op = op} a o b) h = case_E1 a (no_logical t op o)

case_E : {ts r : List Lexeme} {e : ExpressionTree} → IsE ts e r → goes_on_in_case (head r) ≡ false
    → begins_case ts ≡ false
case_E (e_plain a) h = case_E1 a h
case_E (e_assign a b) h = case_E1 a refl

-- ---- statements

pub case_S : {ts r : List Lexeme} {x : StatementTree} → IsS ts x r → begins_case ts ≡ false
unfolding begins_case
case_S s_empty = refl
case_S (s_block a) = refl
case_S s_text = refl
case_S (s_print a) = refl
case_S (s_print_ret a) = refl
case_S s_new_line = refl
case_S (s_if c a e) = refl
case_S (s_if_else c a b) = refl
case_S (s_while c a) = refl
case_S (s_do a c) = refl
case_S (s_for a f b c g x) = refl
case_S (s_objectloop a x) = refl
case_S (s_switch e a) = refl
case_S s_break = refl
case_S s_continue = refl
case_S s_return = refl
case_S (s_return_value c) = refl
case_S s_rtrue = refl
case_S s_rfalse = refl
case_S s_quit = refl
case_S s_read = refl
case_S (s_give c a) = refl
case_S (s_move a b) = refl
case_S (s_remove c) = refl
case_S (s_effect c f) = case_E c refl
