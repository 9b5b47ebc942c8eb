use Rattle.std.proofs.Common.{◌≡◌, length}
use Rattle.derive_tokens.specs.Pieces.{derived_all}
use Rattle.derive_tokens.specs.Held.{names_of}
use Rattle.derive_constants.specs.Cutting.{directives}
use Rattle.derive_classes.specs.Properties.{defined, defined_from}
use Rattle.derive_classes.proofs.properties.defined.Given as goal

abbrev pub invariant-loop-rest : goal.invariant-loop-rest
invariant-loop-rest l =
    defined_from (names_of l.names) (directives (derived_all l.rest)) ≡ defined (directives (derived_all l.pieces))

abbrev pub decreases-loop-rest : goal.decreases-loop-rest
decreases-loop-rest l = length l.rest
