use Rattle.std.proofs.Common.{◌≡◌, ◌≤◌, drop}
use Rattle.derive_tokens.specs.Pieces.{derived_all}
use Rattle.derive_constants.specs.Held.{known_of}
use Rattle.derive_values.specs.Places.{opened_within}
use Rattle.derive_values.specs.Views.{reading_of}
use Rattle.derive_routines.specs.Arities.{arities_from, arities_of}
use Rattle.derive_routines.proofs.arities.arities_of.Given as goal

abbrev pub invariant-loop-piece : goal.invariant-loop-piece
invariant-loop-piece l = record {
  few : opened_within l.reading.scope ≤ l.piece-index;
  rest : arities_from (known_of l.arities) (reading_of l.reading) l.routine.items
      (derived_all (drop l.piece-index l.pieces))
      ≡ arities_of (derived_all l.pieces);
}
