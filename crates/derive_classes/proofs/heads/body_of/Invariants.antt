use Rattle.std.proofs.Common.{◌≡◌, drop}
use Rattle.derive_tokens.specs.Pieces.{derived_all}
use Rattle.derive_classes.specs.Heads.{body_of}
use Rattle.derive_classes.proofs.heads.body_of.Given as goal

abbrev pub invariant-loop-at : goal.invariant-loop-at
invariant-loop-at l =
    body_of (derived_all (drop l.at l.pieces)) ≡ body_of (derived_all l.pieces)
