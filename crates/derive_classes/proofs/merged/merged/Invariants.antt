use Rattle.std.proofs.Common.{◌≡◌, ◌++◌, drop}
use Rattle.derive_tokens.specs.Pieces.{derived_all}
use Rattle.derive_tokens.specs.Held.{names_of}
use Rattle.derive_classes.specs.Merged.{merged, merged_from}
use Rattle.derive_classes.proofs.merged.merged.Given as goal

abbrev pub invariant-loop-at : goal.invariant-loop-at
invariant-loop-at l =
    derived_all l.out.items ++ merged_from (names_of l.additive) (names_of l.seen) (derived_all (drop l.at l.pieces))
    ≡ merged (names_of l.additive) (derived_all l.pieces)
