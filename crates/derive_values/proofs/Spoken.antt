-- Tokens from a line of words, and the words of tokens, for samples. Each token stands at the beginning of a source.
use Rattle.std.proofs.Common.{ℕ, List, [], ◌∷◌, ◌++◌, Ok, Err}
use Rattle.std.specs.Prelude.{codes}
use Rattle.syntax_lexer.specs.declared.token.Position.{Position}
use Rattle.syntax_lexer.specs.Token.{Lexeme, end}
use Rattle.derive_tokens.specs.Tokens.{Outcome}
use Rattle.derive_tokens.specs.Spelled.{spelling}
use Rattle.derive_values.proofs.Wording.{worded}

abbrev pub origin : Position
origin = record { offset = 0; line = 1 }

-- the tokens of a line, and the end
abbrev pub heard : List ℕ → List Lexeme
heard line = worded origin line ++ end origin ∷ []

-- tokens with a space between them
abbrev pub spoken : List Lexeme → List ℕ
spoken [] = []
spoken (end p ∷ ts) = []
spoken (t ∷ []) = spelling t
spoken (t ∷ end p ∷ ts) = spelling t
spoken (t ∷ u ∷ ts) = spelling t ++ 32 ∷ spoken (u ∷ ts)

abbrev pub told : Outcome → List ℕ
told (Ok ts) = spoken ts
told (Err fault) = codes "refused"
