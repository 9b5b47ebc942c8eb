use Rattle.std.proofs.Common.{◌≡◌, ◌++◌, drop}
use Rattle.derive_tokens.specs.Pieces.{derived_all}
use Rattle.derive_classes.specs.Merged.{values_of}
use Rattle.derive_classes.proofs.merged.put_values_of.Given as goal

abbrev pub invariant-loop-at : goal.invariant-loop-at
invariant-loop-at l =
    derived_all l.out.items ++ values_of l.name (derived_all (drop l.at l.pieces))
    ≡ derived_all l.initial.out.items ++ values_of l.name (derived_all l.pieces)
