use Rattle.std.proofs.Common.{◌≡◌, ◌++◌, drop}
use Rattle.derive_tokens.specs.Pieces.{derived_all}
use Rattle.derive_classes.specs.Parts.{row_from, row_of}
use Rattle.derive_classes.proofs.parts.put_row.Given as goal

abbrev pub invariant-loop-piece : goal.invariant-loop-piece
invariant-loop-piece l =
    derived_all l.out.items ++ row_from l.row l.mode (derived_all (drop l.piece-index l.pieces))
    ≡ derived_all l.initial.out.items ++ row_of l.row (derived_all l.pieces)
