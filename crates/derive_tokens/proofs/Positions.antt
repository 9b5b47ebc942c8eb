-- Where a derived token comes from.
use Rattle.std.proofs.Common.{◌≡◌, refl}
use Rattle.syntax_lexer.specs.declared.token.Kind.{Kind}
use Rattle.syntax_lexer.specs.declared.token.Kind.TheVariants as kinds
use Rattle.syntax_lexer.specs.declared.token.Position.{Position}
use Rattle.syntax_lexer.specs.Token.{lexeme_of, position_of}
use Rattle.derive_tokens.specs.declared.piece.PieceKind.{PieceKind}
use Rattle.derive_tokens.specs.declared.piece.PieceKind.TheVariants as pieces
use Rattle.derive_tokens.specs.Pieces.{derived_of}

pub position_read : (kind : Kind) (p : Position) → position_of (lexeme_of kind p) ≡ p
position_read (kinds.Name s) p = refl
position_read (kinds.Number n) p = refl
position_read (kinds.Text s) p = refl
position_read (kinds.Character c) p = refl
position_read (kinds.DictionaryWord s) p = refl
position_read (kinds.Reserved w) p = refl
position_read (kinds.Sign s) p = refl
position_read kinds.End p = refl

pub position_derived : (kind : PieceKind) (p : Position) → position_of (derived_of kind p) ≡ p
position_derived (pieces.Read kind) p = position_read kind p
position_derived (pieces.Numbered prefix n) p = refl
position_derived (pieces.Quoted bytes) p = refl
