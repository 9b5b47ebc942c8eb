use Rattle.std.proofs.Common.{◌≡◌, length}
use Rattle.derive_tokens.specs.Pieces.{derived_all}
use Rattle.derive_tokens.specs.Held.{names_of}
use Rattle.derive_constants.specs.Cutting.{directives}
use Rattle.derive_classes.specs.Classed.{class_fault, fault_from}
use Rattle.derive_classes.proofs.pass.class_fault.Given as goal

abbrev pub invariant-loop-rest : goal.invariant-loop-rest
invariant-loop-rest l =
    fault_from (names_of l.names) (directives (derived_all l.rest)) ≡ class_fault (derived_all l.pieces)

abbrev pub decreases-loop-rest : goal.decreases-loop-rest
decreases-loop-rest l = length l.rest
