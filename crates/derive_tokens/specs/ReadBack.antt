-- What the lexer finds in tokens that are written: these tokens, on these lines.
use Rattle.std.specs.Prelude.{◌+◌, ◌≤◌, ℕ, List, [], ◌∷◌, length, max, Ok}
use Rattle.std.specs.List.{All}
use Rattle.syntax_lexer.specs.declared.token.Position.{Position}
use Rattle.syntax_lexer.specs.Spelling.{Spells}
use Rattle.syntax_lexer.specs.Token.{Lexeme, name, number, text, character, dictionary_word, reserved, sign, end}
use Rattle.syntax_lexer.specs.Tokens.{SourceToken, Lexes, EndsOnce}
use Rattle.derive_tokens.specs.Spelled.{spelling}
use Rattle.derive_tokens.specs.Written.{gap, line_of, written}

-- a token that is spelled as one, and no name that is too long
abbrev pub IsWritable : Lexeme → Type 0
IsWritable (end p) = Unit {0}
IsWritable (name s p) = Spells (name s p) s × (length s ≤ 32)
IsWritable (number n p) = n ≤ 65535
IsWritable t = Spells t (spelling t)

-- the same token at a position
abbrev pub at_position : Position → Lexeme → Lexeme
at_position p (name s q) = name s p
at_position p (number n q) = number n p
at_position p (text s q) = text s p
at_position p (character c q) = character c p
at_position p (dictionary_word s q) = dictionary_word s p
at_position p (reserved w q) = reserved w p
at_position p (sign s q) = sign s p
at_position p (end q) = end p

-- a token as it is found at an offset and a line
abbrev pub found_at : ℕ → ℕ → Lexeme → SourceToken
found_at offset line t = record {
  lexeme = at_position (record { offset = offset; line = line }) t;
  text = spelling t;
  end = offset + length (spelling t);
}

-- the tokens as they are found after what is written before them
abbrev pub found_from : ℕ → ℕ → List Lexeme → List SourceToken
found_from offset line [] = []
found_from offset line (t ∷ ts) =
    let start : ℕ = offset + length (gap line (line_of t)) in
    found_at start (max line (line_of t)) t
    ∷ found_from (start + length (spelling t)) (max line (line_of t)) ts

-- tokens that can be written, the last of which is the end
abbrev pub AreWritable : List Lexeme → Type 0
AreWritable ts = All IsWritable ts × EndsOnce ts

-- The lexer reads these very tokens again.
abbrev pub ReadsBack : Type 0
ReadsBack = (ts : List Lexeme) → AreWritable ts → Lexes 0 1 (written ts) (Ok (found_from 0 1 ts))
