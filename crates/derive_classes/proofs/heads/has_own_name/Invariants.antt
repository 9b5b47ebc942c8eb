use Rattle.std.proofs.Common.{◌≡◌, drop}
use Rattle.derive_tokens.specs.Pieces.{derived_all}
use Rattle.derive_classes.specs.Heads.{has_own_name}
use Rattle.derive_classes.proofs.heads.has_own_name.Given as goal

abbrev pub invariant-loop-piece : goal.invariant-loop-piece
invariant-loop-piece l =
    has_own_name (derived_all (drop l.piece-index l.pieces)) ≡ has_own_name (derived_all l.pieces)
