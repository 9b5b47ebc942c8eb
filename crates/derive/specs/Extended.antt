-- What an extended source stands for.
use Rattle.std.specs.Prelude.{◌≡◌, ℕ, List, map, Ok, Err}
use Rattle.syntax_lexer.specs.Token.{Lexeme}
use Rattle.syntax_lexer.specs.Tokens.{Lexes, SourceToken, TokenOutcome}
use Rattle.derive_joined.specs.Joined.{joined}
use Rattle.derive_joined.specs.Origin.{fault_in}
use Rattle.derive.specs.Passes.{Derived, passed}

abbrev pub lexeme_in : SourceToken → Lexeme
lexeme_in t = t.lexeme

abbrev pub passed_outcome : TokenOutcome → Derived
passed_outcome (Ok tokens) = passed (map lexeme_in tokens)
passed_outcome (Err fault) = Err fault

-- a fault at its place in the source that was written
abbrev pub placed_in : List ℕ → Derived → Derived
placed_in source (Ok text) = Ok text
placed_in source (Err fault) = Err (fault_in source fault)

-- The source is lexed with its texts joined, and its tokens are passed on.
pub record Extends (source : List ℕ) (derived : Derived) : Type 0 where
  pub outcome : TokenOutcome
  pub lexes : Lexes 0 1 (joined source) outcome
  pub derives : derived ≡ placed_in source (passed_outcome outcome)

-- what the tokens of a joined source are passed on to
pub record DerivesJoined (text : List ℕ) (derived : Derived) : Type 0 where
  pub outcome : TokenOutcome
  pub lexes : Lexes 0 1 text outcome
  pub derives : derived ≡ passed_outcome outcome
