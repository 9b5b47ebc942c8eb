use Rattle.std.proofs.Common.{◌≡◌, length}
use Rattle.derive_tokens.specs.Pieces.{derived_all}
use Rattle.derive_tokens.specs.Held.{names_of}
use Rattle.derive_constants.specs.Cutting.{directives}
use Rattle.derive_classes.specs.Directives.{additive_from, additive_of}
use Rattle.derive_classes.proofs.directives.additive_of.Given as goal

abbrev pub invariant-loop-rest : goal.invariant-loop-rest
invariant-loop-rest l =
    additive_from (names_of l.names) (directives (derived_all l.rest))
    ≡ additive_of (directives (derived_all l.pieces))

abbrev pub decreases-loop-rest : goal.decreases-loop-rest
decreases-loop-rest l = length l.rest
