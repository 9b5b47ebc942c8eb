-- What is left after a part of the tokens.
use Rattle.std.specs.Prelude.{◌≡◌, ◌++◌, List}
use Rattle.syntax_lexer.specs.Token.{Lexeme}

-- r is what tokens end with
abbrev pub EndsWith : List Lexeme → List Lexeme → Type 0
EndsWith ts r = (front : List Lexeme) × (ts ≡ front ++ r)
