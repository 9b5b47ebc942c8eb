-- Tokens without the last.
use Rattle.std.proofs.Common.{◌≡◌, ◌-◌, List, length, take, sym, ap, ◌∙◌}
use Rattle.std.proofs.lemmas.List.{take-map, length-map}
use Rattle.derive_tokens.specs.declared.piece.Piece.{Piece}
use Rattle.derive_tokens.specs.Pieces.{derived, derived_all}
use Rattle.derive.specs.Passes.{before_end}

pub derived_before_end : (pieces : List Piece)
    → derived_all (take (length pieces - 1) pieces) ≡ before_end (derived_all pieces)
derived_before_end pieces =
    sym (take-map derived (length pieces - 1) pieces)
    ∙ ap (λ n. take (n - 1) (derived_all pieces)) (sym (length-map pieces derived))
