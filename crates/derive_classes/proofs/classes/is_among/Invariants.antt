use Rattle.std.proofs.Common.{◌≡◌, drop}
use Rattle.derive_classes.specs.Classes.{is_named_known}
use Rattle.derive_classes.specs.Held.{known_of}
use Rattle.derive_classes.proofs.classes.is_among.Given as goal

abbrev pub invariant-loop-class : goal.invariant-loop-class
invariant-loop-class l =
    is_named_known (known_of (drop l.class-index l.known)) l.name ≡ is_named_known (known_of l.known) l.name
