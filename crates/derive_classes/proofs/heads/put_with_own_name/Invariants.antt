use Rattle.std.proofs.Common.{◌≡◌, ◌++◌, drop}
use Rattle.derive_tokens.specs.Pieces.{derived_all}
use Rattle.derive_classes.specs.Heads.{with_own_name}
use Rattle.derive_classes.proofs.heads.put_with_own_name.Given as goal

abbrev pub invariant-loop-at : goal.invariant-loop-at
invariant-loop-at l =
    derived_all l.out.items ++ with_own_name l.position (derived_all (drop l.at l.pieces))
    ≡ derived_all l.initial.out.items ++ with_own_name l.position (derived_all l.pieces)
