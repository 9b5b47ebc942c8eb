use Rattle.std.proofs.Common.{◌≡◌, drop}
use Rattle.derive_tokens.specs.Pieces.{derived_all}
use Rattle.derive_tokens.specs.Held.{names_of}
use Rattle.derive.specs.Passes.{own_names, own_names_from}
use Rattle.derive.proofs.own_names.own_names.Given as goal

abbrev pub invariant-loop-piece : goal.invariant-loop-piece
invariant-loop-piece l = own_names_from (names_of l.names) (derived_all (drop l.piece-index l.pieces))
    ≡ own_names (derived_all l.pieces)
