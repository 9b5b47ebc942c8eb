-- The token with which an expression of each level begins.
use Rattle.std.proofs.Common.{◌≡◌, ℕ, ◌<◌, true, false, List, Some, None, refl, arith}
use Rattle.syntax_lexer.specs.declared.token.Sign.TheVariants as s
use Rattle.syntax_lexer.specs.declared.token.Word.{Word}
use Rattle.syntax_lexer.specs.declared.token.Word.TheVariants as w
use Rattle.syntax_lexer.specs.Token.{Lexeme, name, number, character, dictionary_word, reserved, sign}
use Rattle.syntax_trees.specs.declared.tree.Relative.{Relative}
use Rattle.syntax_trees.specs.declared.tree.Step.{Step}
use Rattle.syntax_trees.specs.Tree.{ExpressionTree, ExpressionTrees}
use Rattle.syntax_trees.specs.Parse.{head, is_sign}
use Rattle.syntax_expressions.specs.Operators.{stepping, prefixes, relating_word, relating, word_begins}
use Rattle.syntax_expressions.specs.Operators.{begins_expression}
use Rattle.syntax_expressions.specs.Grammar.{IsE, e_plain, e_assign, IsE1, e1_plain, e1_logical, IsN1, n1_plain, n1_not}
use Rattle.syntax_expressions.specs.Grammar.{IsE2, e2_plain, e2_compare, e2_equal, e2_contained, e2_tested, IsE3}
use Rattle.syntax_expressions.specs.Grammar.{e3_plain, e3_add, IsE4, e4_plain, e4_scale, IsN4, n4_plain, n4_complement}
use Rattle.syntax_expressions.specs.Grammar.{IsE5, e5_plain, e5_index, e5_entry, IsU, u_plain, u_minus, u_before}
use Rattle.syntax_expressions.specs.Grammar.{u_after, u_length, IsP, p_property, p_number, p_character, p_word, p_true}
use Rattle.syntax_expressions.specs.Grammar.{p_false, p_nothing, p_name, p_call, p_call_with, p_relative}
use Rattle.syntax_expressions.specs.Grammar.{p_parenthesised, IsArguments, arguments_last, arguments_comma}

abbrev pub word_level : Word → ℕ
word_level w.True = 4
word_level w.False = 4
word_level w.Nothing = 4
word_level w.Parent = 4
word_level w.Child = 4
word_level w.Sibling = 4
word_level _ = 0

-- the tightest level that begins with a token: 1 from E, 2 from N4, 3 from U, 4 from P; 0 where none does
abbrev pub begins : Lexeme → ℕ
begins (sign s.Not _) = 1
begins (sign s.Tilde _) = 2
begins (sign s.Minus _) = 3
begins (sign s.Increment _) = 3
begins (sign s.Decrement _) = 3
begins (name _ _) = 4
begins (number _ _) = 4
begins (character _ _) = 4
begins (dictionary_word _ _) = 4
begins (reserved w _) = word_level w
begins (sign s.OpenParenthesis _) = 4
begins _ = 0

pub begins_not : (t : Lexeme) → 1 < begins t → is_sign s.Not t ≡ false
begins_not (sign s.Not p) lt = absurd (omega arith)
begins_not _ lt = refl

pub begins_tilde : (t : Lexeme) → 2 < begins t → is_sign s.Tilde t ≡ false
begins_tilde (sign s.Tilde p) lt = absurd (omega arith)
begins_tilde _ lt = refl

pub begins_minus : (t : Lexeme) → 3 < begins t → is_sign s.Minus t ≡ false
begins_minus (sign s.Minus p) lt = absurd (omega arith)
begins_minus _ lt = refl

pub begins_step : (t : Lexeme) → 3 < begins t → stepping t ≡ None
begins_step (sign s.Increment p) lt = absurd (omega arith)
begins_step (sign s.Decrement p) lt = absurd (omega arith)
begins_step _ lt = refl

pub begins_prefix : (t : Lexeme) → 3 < begins t → prefixes t ≡ false
begins_prefix (sign s.Minus p) lt = absurd (omega arith)
begins_prefix (sign s.Increment p) lt = absurd (omega arith)
begins_prefix (sign s.Decrement p) lt = absurd (omega arith)
begins_prefix _ lt = refl

pub step_prefixes : (t : Lexeme) (op : Step) → stepping t ≡ Some op → prefixes t ≡ true
step_prefixes (sign s.Increment p) op e = refl
step_prefixes (sign s.Decrement p) op e = refl
step_prefixes _ op e = absurd cc

pub begins_close : (t : Lexeme) → 0 < begins t → is_sign s.CloseParenthesis t ≡ false
begins_close (sign s.CloseParenthesis p) lt = absurd (omega arith)
begins_close _ lt = refl

word_any : (r : Word) → 0 < word_level r → word_begins r ≡ true
word_any w.True lt = refl
word_any w.False lt = refl
word_any w.Nothing lt = refl
word_any w.Parent lt = refl
word_any w.Child lt = refl
word_any w.Sibling lt = refl
word_any _ lt = absurd (omega arith)

pub begins_any : (t : Lexeme) → 0 < begins t → begins_expression t ≡ true
begins_any (sign s.Not p) lt = refl
begins_any (sign s.Tilde p) lt = refl
begins_any (sign s.Minus p) lt = refl
begins_any (sign s.Increment p) lt = refl
begins_any (sign s.Decrement p) lt = refl
begins_any (name f p) lt = refl
begins_any (number n p) lt = refl
begins_any (character c p) lt = refl
begins_any (dictionary_word f p) lt = refl
begins_any (reserved r p) lt = word_any r lt
begins_any (sign s.OpenParenthesis p) lt = refl
begins_any _ lt = absurd (omega arith)

pub step_begins : (t : Lexeme) (op : Step) → stepping t ≡ Some op → begins t ≡ 3
step_begins (sign s.Increment p) op e = refl
step_begins (sign s.Decrement p) op e = refl
step_begins _ op e = absurd cc

relating_word_level : (r : Word) (which : Relative) → relating_word r ≡ Some which → word_level r ≡ 4
relating_word_level w.Parent which e = refl
relating_word_level w.Child which e = refl
relating_word_level w.Sibling which e = refl
relating_word_level _ which e = absurd cc

pub relating_begins : (t : Lexeme) (which : Relative) → relating t ≡ Some which → begins t ≡ 4
relating_begins (reserved r p) which e = relating_word_level r which e
relating_begins _ which e = absurd cc

pub begin_P : {ts r : List Lexeme} {e : ExpressionTree} → IsP ts e r → 3 < begins (head ts)
begin_P (p_property a) = begin_P a
begin_P p_number = omega arith
begin_P p_character = omega arith
begin_P p_word = omega arith
begin_P p_true = omega arith
begin_P p_false = omega arith
begin_P p_nothing = omega arith
begin_P p_name = omega arith
begin_P p_call = omega arith
begin_P (p_call_with a) = omega arith
begin_P (p_relative {t = t} {which = which} o a) = omega (arith, relating_begins t which o)
begin_P (p_parenthesised a) = omega arith

pub begin_U : {ts r : List Lexeme} {e : ExpressionTree} → IsU ts e r → 2 < begins (head ts)
begin_U (u_plain a) = omega (arith, begin_P a)
begin_U (u_minus a) = omega arith
begin_U (u_before {t = t} {op = op} o a) = omega (arith, step_begins t op o)
begin_U (u_after a o) = omega (arith, begin_P a)
begin_U (u_length a) = omega (arith, begin_P a)

pub begin_E5 : {ts r : List Lexeme} {e : ExpressionTree} → IsE5 ts e r → 2 < begins (head ts)
begin_E5 (e5_plain a) = begin_U a
begin_E5 (e5_index o a) = omega arith
begin_E5 (e5_entry a b) = omega (arith, begin_P a)

pub begin_N4 : {ts r : List Lexeme} {e : ExpressionTree} → IsN4 ts e r → 1 < begins (head ts)
begin_N4 (n4_plain a) = omega (arith, begin_E5 a)
begin_N4 (n4_complement a) = omega arith

pub begin_E4 : {ts r : List Lexeme} {e : ExpressionTree} → IsE4 ts e r → 1 < begins (head ts)
begin_E4 (e4_plain a) = begin_N4 a
begin_E4 (e4_scale a o b) = begin_E4 a

pub begin_E3 : {ts r : List Lexeme} {e : ExpressionTree} → IsE3 ts e r → 1 < begins (head ts)
begin_E3 (e3_plain a) = begin_E4 a
begin_E3 (e3_add a o b) = begin_E3 a

pub begin_E2 : {ts r : List Lexeme} {e : ExpressionTree} → IsE2 ts e r → 1 < begins (head ts)
begin_E2 (e2_plain a) = begin_E3 a
begin_E2 (e2_compare a o b) = begin_E3 a
begin_E2 (e2_equal a o b) = begin_E3 a
begin_E2 (e2_contained a o b) = begin_E3 a
begin_E2 (e2_tested a o) = begin_E3 a

pub begin_N1 : {ts r : List Lexeme} {e : ExpressionTree} → IsN1 ts e r → 0 < begins (head ts)
begin_N1 (n1_plain a) = omega (arith, begin_E2 a)
begin_N1 (n1_not a) = omega arith

pub begin_E1 : {ts r : List Lexeme} {e : ExpressionTree} → IsE1 ts e r → 0 < begins (head ts)
begin_E1 (e1_plain a) = begin_N1 a
begin_E1 (e1_logical a o b) = begin_E1 a

pub begin_E : {ts r : List Lexeme} {e : ExpressionTree} → IsE ts e r → 0 < begins (head ts)
begin_E (e_plain a) = begin_E1 a
begin_E (e_assign a b) = begin_E1 a

pub begin_Arguments : {ts r : List Lexeme} {es : ExpressionTrees} → IsArguments ts es r → 0 < begins (head ts)
begin_Arguments (arguments_last a) = begin_E a
begin_Arguments (arguments_comma a b) = begin_E a

-- the first token of an expression is one with which an expression can begin
pub first_E : {ts r : List Lexeme} {e : ExpressionTree} → IsE ts e r → begins_expression (head ts) ≡ true
first_E {ts} a = begins_any (head ts) (begin_E a)
