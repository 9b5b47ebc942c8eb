use Rattle.std.proofs.Common.{◌≡◌, ◌++◌, length}
use Rattle.derive_tokens.specs.Pieces.{derived_all}
use Rattle.derive_tokens.specs.Held.{names_of}
use Rattle.derive_constants.specs.Cutting.{directives}
use Rattle.derive_classes.specs.Properties.{declared, declared_from}
use Rattle.derive_classes.proofs.properties.declared.Given as goal

abbrev pub invariant-loop-rest : goal.invariant-loop-rest
invariant-loop-rest l =
    derived_all l.out.items ++ declared_from (names_of l.names) (directives (derived_all l.rest))
    ≡ declared (derived_all l.pieces)

abbrev pub decreases-loop-rest : goal.decreases-loop-rest
decreases-loop-rest l = length l.rest
