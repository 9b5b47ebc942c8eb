-- Where no array's entry stands, by what derives.
use Rattle.std.proofs.Common.{◌≡◌, false, List, Some, None, refl}
use Rattle.syntax_lexer.specs.declared.token.Sign.TheVariants as s
use Rattle.syntax_lexer.specs.Token.{Lexeme, sign}
use Rattle.syntax_trees.specs.declared.tree.Step.{Step}
use Rattle.syntax_trees.specs.Tree.{ExpressionTree}
use Rattle.syntax_trees.specs.Parse.{head}
use Rattle.syntax_expressions.specs.Operators.{stepping, indexing}
use Rattle.syntax_expressions.specs.PartParse.{is_name, array_at}
use Rattle.syntax_expressions.proofs.ArrayParts.{array_no_name, no_arrow}
use Rattle.syntax_expressions.specs.Grammar.{IsU, u_plain, u_minus, u_before, u_after, u_length, IsP, p_property}
use Rattle.syntax_expressions.specs.Grammar.{p_number, p_character, p_word, p_true, p_false, p_nothing, p_name, p_call}
use Rattle.syntax_expressions.specs.Grammar.{p_call_with, p_relative, p_parenthesised}
use Rattle.syntax_expressions.proofs.Follow.{Stops, indexing_stops}

step_no_index : (t : Lexeme) (op : Step) → stepping t ≡ Some op → indexing t ≡ None
step_no_index (sign s.Increment p) op e = refl
step_no_index (sign s.Decrement p) op e = refl
step_no_index _ op e = absurd cc

pub step_no_name : (t : Lexeme) (op : Step) → stepping t ≡ Some op → is_name t ≡ false
step_no_name (sign s.Increment p) op e = refl
step_no_name (sign s.Decrement p) op e = refl
step_no_name _ op e = absurd cc

pub no_array_P : {ts r : List Lexeme} {e : ExpressionTree} → IsP ts e r → indexing (head r) ≡ None → array_at ts ≡ None
unfolding array_at
no_array_P (p_property a) h = no_array_P a refl
no_array_P p_number h = refl
no_array_P p_character h = refl
no_array_P p_word h = refl
no_array_P p_true h = refl
no_array_P p_false h = refl
no_array_P p_nothing h = refl
no_array_P p_name h = rw h refl
no_array_P p_call h = refl
no_array_P (p_call_with a) h = refl
no_array_P (p_relative {t = t} o a) h = no_arrow t
no_array_P (p_parenthesised a) h = refl

-- an operand is no array up to a token that is no arrow
pub no_array : {ts r : List Lexeme} {e : ExpressionTree} → IsU ts e r → Stops 6 r → array_at ts ≡ None
unfolding array_at
no_array {r = r} (u_plain a) st = no_array_P a (indexing_stops (head r) st)
no_array (u_minus a) st = refl
no_array {ts} (u_before {t = t} {op = op} o a) st = array_no_name ts (step_no_name t op o)
no_array (u_after {t = t} {op = op} a o) st = no_array_P a (step_no_index t op o)
no_array (u_length a) st = no_array_P a refl
