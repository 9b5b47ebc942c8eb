use Rattle.std.proofs.Common.{◌≡◌, ◌++◌, [], drop}
use Rattle.derive_tokens.specs.Pieces.{derived_all}
use Rattle.derive_tokens.specs.Held.{names_of}
use Rattle.derive_classes.specs.Merged.{settled_from}
use Rattle.derive_classes.proofs.merged.settled_from.Given as goal

abbrev pub invariant-loop-at : goal.invariant-loop-at
invariant-loop-at l =
    derived_all l.out.items ++ settled_from (names_of l.later) (derived_all (drop l.at l.pieces))
    ≡ settled_from [] (derived_all l.pieces)
