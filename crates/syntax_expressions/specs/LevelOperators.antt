-- Words of contracts and proofs: the levels whose operators group to the left, each with its operators.
use Rattle.std.specs.Prelude.{Option}
use Rattle.syntax_lexer.specs.Token.{Lexeme}
use Rattle.syntax_trees.specs.declared.tree.Binary.{Binary}
use Rattle.syntax_trees.specs.declared.tree.Binary.TheVariants as op
use Rattle.syntax_expressions.specs.declared.operators.Operators.{Operators}
use Rattle.syntax_expressions.specs.declared.operators.Operators.TheVariants as operators
use Rattle.syntax_expressions.specs.Operators.{logical, adding, scaling}

abbrev pub operator_of : Operators → Lexeme → Option Binary
operator_of operators.Logical = logical
operator_of operators.Adding = adding
operator_of operators.Scaling = scaling

-- the level of an operator
abbrev pub level_of : Binary → Operators
level_of op.AndAlso = operators.Logical
level_of op.OrElse = operators.Logical
level_of op.Add = operators.Adding
level_of op.Subtract = operators.Adding
level_of _ = operators.Scaling
