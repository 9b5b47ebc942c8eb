use Rattle.std.proofs.Common.{◌≡◌, drop}
use Rattle.derive_tokens.specs.Pieces.{derived_all}
use Rattle.derive_entries.specs.Operands.{arrow_ahead}
use Rattle.derive_entries.proofs.operands.is_arrow_ahead.Given as goal

abbrev pub invariant-loop-piece : goal.invariant-loop-piece
invariant-loop-piece l = arrow_ahead (derived_all (drop l.piece-index l.pieces)) ≡ arrow_ahead (derived_all l.pieces)
