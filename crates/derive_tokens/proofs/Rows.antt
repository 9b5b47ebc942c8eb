-- The first of derived tokens.
use Rattle.std.proofs.Common.{◌≡◌, ℕ, List, take, sym}
use Rattle.std.proofs.lemmas.List.{take-map}
use Rattle.derive_tokens.specs.declared.piece.Piece.{Piece}
use Rattle.derive_tokens.specs.Pieces.{derived, derived_all}

pub derived_take : (pieces : List Piece) (count : ℕ)
    → derived_all (take count pieces) ≡ take count (derived_all pieces)
derived_take pieces count = sym (take-map derived count pieces)
