use Rattle.std.proofs.Common.{◌≡◌, ◌++◌, drop}
use Rattle.derive_tokens.specs.Pieces.{derived, derived_all}
use Rattle.derive_classes.specs.Classes.{given_named}
use Rattle.derive_classes.specs.Held.{known_of}
use Rattle.derive_classes.proofs.classes.put_given_in.Given as goal

abbrev pub invariant-loop-class : goal.invariant-loop-class
invariant-loop-class l =
    (derived_all l.out.items ++ given_named (known_of (drop l.class-index l.known)) l.name (derived l.piece))
    ≡ derived_all l.initial.out.items ++ given_named (known_of l.known) l.name (derived l.piece)
