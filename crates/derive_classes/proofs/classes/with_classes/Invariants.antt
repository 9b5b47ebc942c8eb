use Rattle.std.proofs.Common.{◌≡◌, ◌++◌, length}
use Rattle.derive_tokens.specs.Pieces.{derived_all}
use Rattle.derive_tokens.specs.Held.{names_of}
use Rattle.derive_constants.specs.Cutting.{directives}
use Rattle.derive_classes.specs.Classes.{program_from, with_classes}
use Rattle.derive_classes.specs.Held.{known_of}
use Rattle.derive_classes.proofs.classes.with_classes.Given as goal

abbrev pub invariant-loop-rest : goal.invariant-loop-rest
invariant-loop-rest l =
    derived_all l.out.items ++ program_from (names_of l.additive) (known_of l.known.items) (directives (derived_all l.rest))
    ≡ with_classes (derived_all l.pieces)

abbrev pub decreases-loop-rest : goal.decreases-loop-rest
decreases-loop-rest l = length l.rest
