use Rattle.std.proofs.Common.{◌≡◌, ◌++◌, drop}
use Rattle.std.specs.List.{flat_map}
use Rattle.derive_tokens.specs.Pieces.{derived_all}
use Rattle.derive_classes.specs.Classes.{given_of}
use Rattle.derive_classes.specs.Held.{known_of}
use Rattle.derive_classes.proofs.classes.put_class_given.Given as goal

abbrev pub invariant-loop-piece : goal.invariant-loop-piece
invariant-loop-piece l =
    derived_all l.out.items ++ flat_map (given_of (known_of l.known)) (derived_all (drop l.piece-index l.given))
    ≡ derived_all l.initial.out.items ++ flat_map (given_of (known_of l.known)) (derived_all l.given)
