use Rattle.std.proofs.Common.{◌≡◌, ◌++◌, drop}
use Rattle.derive_tokens.specs.Pieces.{derived_all}
use Rattle.derive_classes.specs.Merged.{first_values}
use Rattle.derive_classes.proofs.merged.put_first_values.Given as goal

abbrev pub invariant-loop-piece : goal.invariant-loop-piece
invariant-loop-piece l =
    derived_all l.out.items ++ first_values (derived_all (drop l.piece-index l.pieces))
    ≡ derived_all l.initial.out.items ++ first_values (derived_all l.pieces)
