-- Words of contracts: what a function that reads expressions returned, over what reading from the list of tokens gives.
use Rattle.std.specs.Prelude.{List, Result}
use Rattle.std.specs.Global.{Box}
use Rattle.syntax_lexer.specs.Token.{Lexeme}
use Rattle.syntax_trees.specs.declared.tree.Expression.{Expression}
use Rattle.syntax_trees.specs.Tree.{ExpressionTree}
use Rattle.syntax_trees.specs.Views.{expression_tree}
use Rattle.syntax_trees.specs.Stop.{Stop}
use Rattle.syntax_trees.specs.declared.error.ParseError.{ParseError}
use Rattle.syntax_trees.specs.declared.parser.Parser.{Parser}
use Rattle.syntax_trees.specs.Returned.{Takes}

-- What was returned, an expression in a box, and the tokens that are left, are what reading gives, unless memory was
-- refused.
abbrev pub TakesExpression : Result (Box Expression) ParseError → Parser → Result (ExpressionTree × List Lexeme) Stop
    → Type 0
TakesExpression result left read = Takes (λ x. expression_tree x.value) result left read
