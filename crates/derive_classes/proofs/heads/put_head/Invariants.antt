use Rattle.std.proofs.Common.{◌≡◌, ◌++◌, drop}
use Rattle.derive_tokens.specs.Pieces.{derived_all}
use Rattle.derive_classes.specs.Heads.{head_of}
use Rattle.derive_classes.proofs.heads.put_head.Given as goal

abbrev pub invariant-loop-piece : goal.invariant-loop-piece
invariant-loop-piece l =
    derived_all l.out.items ++ head_of (derived_all (drop l.piece-index l.pieces))
    ≡ derived_all l.initial.out.items ++ head_of (derived_all l.pieces)
