-- Tokens as a source: each on the line of its origin.
use Rattle.std.specs.Prelude.{ℕ, ◌-◌, max, nat_lt, List, [], ◌∷◌, ◌++◌, if◌then◌else◌}
use Rattle.std.specs.Prelude.{replicate}
use Rattle.syntax_lexer.specs.Token.{Lexeme, position_of}
use Rattle.derive_tokens.specs.Spelled.{spelling}

-- the line of a token's origin
abbrev pub line_of : Lexeme → ℕ
line_of t = (position_of t).line

-- what is before a token: the ends of lines up to its own, or a space
abbrev pub gap : ℕ → ℕ → List ℕ
gap line wanted = if nat_lt line wanted then replicate (wanted - line) 10 else 32 ∷ []

-- A token whose origin is on an earlier line than the token before it is written beside that one.
abbrev pub written_from : ℕ → List Lexeme → List ℕ
written_from line [] = []
written_from line (t ∷ ts) = gap line (line_of t) ++ (spelling t ++ written_from (max line (line_of t)) ts)

abbrev pub written : List Lexeme → List ℕ
written ts = written_from 1 ts
