use Rattle.std.proofs.Common.{◌≡◌, drop}
use Rattle.derive_tokens.specs.Pieces.{derived_all}
use Rattle.derive_tokens.specs.Held.{names_of}
use Rattle.derive_classes.specs.Classed.{unknown_in}
use Rattle.derive_classes.proofs.pass.unknown_in.Given as goal

abbrev pub invariant-loop-piece : goal.invariant-loop-piece
invariant-loop-piece l =
    unknown_in (names_of l.names) (derived_all (drop l.piece-index l.pieces))
    ≡ unknown_in (names_of l.names) (derived_all l.pieces)
