-- What the code holds, as derived tokens.
use Rattle.std.specs.Prelude.{◌≡◌, ◌⊎◌, ◌==◌, ℕ, List, map, Result, Ok, Err, if◌then◌else◌}
use Rattle.std.specs.Global.{Vec}
use Rattle.syntax_lexer.specs.declared.fault.PlacedFault.{PlacedFault}
use Rattle.syntax_lexer.specs.declared.token.Position.{Position}
use Rattle.syntax_lexer.specs.FaultNumbers.{no_memory}
use Rattle.syntax_lexer.specs.Placed.{nowhere}
use Rattle.syntax_lexer.specs.Token.{Lexeme, lexeme_of, name, dictionary_word}
use Rattle.derive_tokens.specs.declared.piece.Piece.{Piece}
use Rattle.derive_tokens.specs.declared.piece.PieceKind.{PieceKind}
use Rattle.derive_tokens.specs.declared.piece.PieceKind.TheVariants as kinds
use Rattle.derive_tokens.specs.Tokens.{Outcome, numbered}

-- `'` is `^` in a dictionary word
abbrev pub quoted_byte : ℕ → ℕ
quoted_byte b = if b == 39 then 94 else b

abbrev pub derived_of : PieceKind → Position → Lexeme
derived_of (kinds.Read kind) p = lexeme_of kind p
derived_of (kinds.Numbered prefix n) p = name (numbered prefix.now n) p
derived_of (kinds.Quoted bytes) p = dictionary_word (map quoted_byte bytes.now) p

abbrev pub derived : Piece → Lexeme
derived piece = derived_of piece.kind piece.position

abbrev pub derived_all : List Piece → List Lexeme
derived_all pieces = map derived pieces

-- the result of a pass is the outcome that its definition gives, or memory is refused
abbrev pub Gives : Result (Vec Piece) PlacedFault → Outcome → Type 0
Gives (Ok pieces) outcome = outcome ≡ Ok (derived_all pieces.items)
Gives (Err fault) outcome = (fault ≡ nowhere no_memory) ⊎ (outcome ≡ Err fault)
