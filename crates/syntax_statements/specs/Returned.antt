-- Words of contracts: what a function that reads statements returned, over what reading from the list of tokens gives.
use Rattle.std.specs.Prelude.{List, Result}
use Rattle.std.specs.Global.{Box}
use Rattle.syntax_lexer.specs.Token.{Lexeme}
use Rattle.syntax_trees.specs.Returned.{Takes}
use Rattle.syntax_trees.specs.Stop.{Stop}
use Rattle.syntax_trees.specs.declared.error.ParseError.{ParseError}
use Rattle.syntax_trees.specs.declared.parser.Parser.{Parser}
use Rattle.syntax_statements.specs.declared.tree.SimpleStatement.{SimpleStatement}
use Rattle.syntax_statements.specs.declared.tree.Statement.{Statement}
use Rattle.syntax_statements.specs.Tree.{StatementTree}
use Rattle.syntax_statements.specs.Views.{simple_tree, statement_tree}

-- The same of a statement in a box.
abbrev pub TakesStatement : Result (Box Statement) ParseError → Parser → Result (StatementTree × List Lexeme) Stop
    → Type 0
TakesStatement result left read = Takes (λ x. statement_tree x.value) result left read

-- The same of a statement in which no other stands.
abbrev pub TakesSimple : Result (Box SimpleStatement) ParseError → Parser → Result (StatementTree × List Lexeme) Stop
    → Type 0
TakesSimple result left read = Takes (λ x. simple_tree x.value) result left read
