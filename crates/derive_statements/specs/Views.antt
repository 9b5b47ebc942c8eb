-- What the code holds.
use Rattle.std.specs.Prelude.{Option, Some, None}
use Rattle.syntax_lexer.specs.Token.{Lexeme}
use Rattle.derive_tokens.specs.declared.piece.Piece.{Piece}
use Rattle.derive_tokens.specs.Pieces.{derived}
use Rattle.derive_tokens.specs.Held.{names_of}
use Rattle.derive_statements.specs.declared.file_names.FileNames.{FileNames as FileNamesHeld}
use Rattle.derive_statements.specs.declared.lists.Listing.{Listing as ListingHeld}
use Rattle.derive_statements.specs.FileNames.{FileNames}
use Rattle.derive_statements.specs.Lists.{Listing}

abbrev pub listing_of : ListingHeld → Listing
listing_of l = record { scope = l.scope; loop = l.is_loop; listed = l.is_listed }

abbrev pub file_names : FileNamesHeld → FileNames
file_names names = record { routines = names_of names.routines; others = names_of names.others }

abbrev pub token_of : Option Piece → Option Lexeme
token_of None = None
token_of (Some piece) = Some (derived piece)
