-- Words of contracts and proofs: parts of expressions that are one token, by the token after it.
use Rattle.std.specs.Prelude.{◌&&◌, nat_le, ℕ, Bool, true, false, List}
use Rattle.syntax_lexer.specs.declared.token.Sign.{Sign}
use Rattle.syntax_lexer.specs.declared.token.Sign.TheVariants as s
use Rattle.syntax_lexer.specs.Token.{Lexeme, name, number, sign}
use Rattle.syntax_trees.specs.Parse.{head, tail}
use Rattle.syntax_expressions.specs.declared.operators.Operators.{Operators}
use Rattle.syntax_expressions.specs.declared.operators.Operators.TheVariants as operators

-- parts by their width: an operand, a product, a sum and a condition
abbrev pub operand_width : ℕ
operand_width = 1

abbrev pub width : Operators → ℕ
width operators.Scaling = 2
width operators.Adding = 3
width operators.Logical = 4

-- the width of the widest part that ends before the sign; 0 if none does
abbrev pub ended_by : Sign → ℕ
ended_by s.Semicolon = width operators.Logical
ended_by s.CloseParenthesis = width operators.Logical
ended_by s.Comma = width operators.Logical
ended_by s.Colon = width operators.Logical
ended_by s.Assign = width operators.Logical
ended_by s.Less = width operators.Adding
ended_by s.Greater = width operators.Adding
ended_by s.LessOrEqual = width operators.Adding
ended_by s.GreaterOrEqual = width operators.Adding
ended_by s.Equal = width operators.Adding
ended_by s.NotEqual = width operators.Adding
ended_by s.AndAlso = width operators.Adding
ended_by s.OrElse = width operators.Adding
ended_by s.Plus = width operators.Scaling
ended_by s.Minus = width operators.Scaling
ended_by s.Star = operand_width
ended_by s.Slash = operand_width
ended_by s.Percent = operand_width
ended_by s.Ampersand = operand_width
ended_by s.Bar = operand_width
ended_by _ = 0

abbrev pub ends : ℕ → Lexeme → Bool
ends wide (sign g _) = nat_le wide (ended_by g)
ends wide _ = false

abbrev pub is_plain : Lexeme → Bool
is_plain (name _ _) = true
is_plain (number _ _) = true
is_plain _ = false

-- a part of that width is a name or a number alone
abbrev pub is_single : ℕ → List Lexeme → Bool
is_single wide ts = is_plain (head ts) && ends wide (head (tail ts))
