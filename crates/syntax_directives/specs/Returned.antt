-- Words of contracts: what a function that reads directives returned, over what reading from the list of tokens gives.
use Rattle.std.specs.Prelude.{List, Result}
use Rattle.std.specs.Global.{Box}
use Rattle.syntax_lexer.specs.Token.{Lexeme}
use Rattle.syntax_trees.specs.Returned.{Takes}
use Rattle.syntax_trees.specs.Stop.{Stop}
use Rattle.syntax_trees.specs.declared.error.ParseError.{ParseError}
use Rattle.syntax_trees.specs.declared.parser.Parser.{Parser}
use Rattle.syntax_directives.specs.declared.tree.Directive.{Directive}
use Rattle.syntax_directives.specs.Tree.{DirectiveTree}
use Rattle.syntax_directives.specs.Views.{directive_tree}

-- The same as Takes, of a directive in a box.
abbrev pub TakesDirective : Result (Box Directive) ParseError → Parser → Result (DirectiveTree × List Lexeme) Stop
    → Type 0
TakesDirective result left read = Takes (λ x. directive_tree x.value) result left read
