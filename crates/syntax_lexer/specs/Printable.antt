-- Tokens whose texts print: each of their bytes is one of 32 to 126.
use Rattle.std.specs.Prelude.{◌≤◌, ℕ, List, Ok}
use Rattle.std.specs.List.{All}
use Rattle.syntax_lexer.specs.declared.token.Token.{Token}
use Rattle.syntax_lexer.specs.Token.{Lexeme, text, lexemes}
use Rattle.syntax_lexer.specs.Tokens.{Lexes}
use Rattle.syntax_lexer.specs.Results.{source_tokens}

abbrev pub IsPrintable : ℕ → Type 0
IsPrintable b = (32 ≤ b) × (b ≤ 126)

-- the token prints, if it is a text
abbrev pub HasPrintableText : Lexeme → Type 0
HasPrintableText (text bytes p) = All IsPrintable bytes
HasPrintableText _ = Unit {0}

-- the texts of the tokens that a source has print
abbrev pub PrintableTokens : Type 0
PrintableTokens = (source : List ℕ) (ts : List Token) → Lexes 0 1 source (Ok (source_tokens ts))
    → All HasPrintableText (lexemes ts)
