-- Words of contracts: what a function that reads tokens in place returned, over what reading from their list gives.
use Rattle.std.specs.Prelude.{List, Result}
use Rattle.syntax_lexer.specs.Token.{Lexeme, lexemes}
use Rattle.syntax_trees.specs.Stop.{Stop}
use Rattle.syntax_trees.specs.declared.error.ParseError.{ParseError}
use Rattle.syntax_trees.specs.Parse.{Gives}
use Rattle.syntax_trees.specs.declared.parser.Parser.{Parser}

-- the tokens that are still to be read
abbrev pub ahead : Parser → List Lexeme
ahead parser = lexemes parser.tokens.now

-- What was returned, a part seen by view, and the tokens that are left, are what reading gives, unless memory was
-- refused. Of the tokens that are left at a fault nothing is said.
abbrev pub Takes : {X Y : Type 0} → (X → Y) → Result X ParseError → Parser → Result (Y × List Lexeme) Stop → Type 0
Takes view result left read = Gives (λ x. (view x, ahead left)) result read
