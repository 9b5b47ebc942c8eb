use Rattle.std.proofs.Common.{◌≡◌, ◌++◌, drop}
use Rattle.derive_tokens.specs.Pieces.{derived_all}
use Rattle.derive_classes.specs.Classes.{properties_named}
use Rattle.derive_classes.specs.Held.{known_of}
use Rattle.derive_classes.proofs.classes.put_properties_in.Given as goal

abbrev pub invariant-loop-class : goal.invariant-loop-class
invariant-loop-class l =
    (derived_all l.out.items ++ properties_named (known_of (drop l.class-index l.known)) l.name)
    ≡ derived_all l.initial.out.items ++ properties_named (known_of l.known) l.name
