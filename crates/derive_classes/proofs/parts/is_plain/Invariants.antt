use Rattle.std.proofs.Common.{◌≡◌, drop}
use Rattle.derive_tokens.specs.Pieces.{derived_all}
use Rattle.derive_classes.specs.Parts.{is_plain, is_plain_from}
use Rattle.derive_classes.proofs.parts.is_plain.Given as goal

abbrev pub invariant-loop-piece : goal.invariant-loop-piece
invariant-loop-piece l =
    is_plain_from l.stage (derived_all (drop l.piece-index l.pieces)) ≡ is_plain (derived_all l.pieces)
