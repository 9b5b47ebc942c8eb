-- What the code holds.
use Rattle.std.specs.Prelude.{◌≡◌, ◌++◌, ℕ, List, map}
use Rattle.std.specs.Global.{Vec}
use Rattle.syntax_lexer.specs.Tokens.{SourceToken}
use Rattle.derive_joined.specs.declared.reading.Reader.{Reader}
use Rattle.derive_joined.specs.Parts.{State, parts_at, role, state_after}

abbrev pub texts_of : List (Vec ℕ) → List (List ℕ)
texts_of files = map (λ text. text.items) files

abbrev pub state_of : Reader → State
state_of r = record { file = r.file; at = r.at; mode = r.mode }

-- one token more is read
pub record Takes (old new : Reader) (t : SourceToken) : Type 0 where
  pub parts : new.parts.items ≡ old.parts.items ++ parts_at (state_of old) (role t.lexeme)
  pub moves : state_of new ≡ state_after (state_of old) t
