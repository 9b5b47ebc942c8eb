use Rattle.std.proofs.Common.{◌≡◌, drop}
use Rattle.derive_tokens.specs.Pieces.{derived_all}
use Rattle.derive_values.specs.Places.{routines_from, routines_of}
use Rattle.derive_tokens.specs.Held.{names_of}
use Rattle.derive_values.proofs.scopes.routines_of.Given as goal

abbrev pub invariant-loop-piece : goal.invariant-loop-piece
invariant-loop-piece l =
    routines_from (names_of l.names) l.scope (derived_all (drop l.piece-index l.pieces))
    ≡ routines_of (derived_all l.pieces)
