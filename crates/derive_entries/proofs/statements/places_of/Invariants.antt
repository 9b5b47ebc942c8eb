use Rattle.std.proofs.Common.{◌≡◌, ◌≤◌, ◌-◌, length, drop}
use Rattle.derive_tokens.specs.Pieces.{derived_all}
use Rattle.derive_tokens.specs.Held.{names_of}
use Rattle.derive_values.specs.Places.{opened_within}
use Rattle.derive_entries.specs.Arrays.{places_from, places_of}
use Rattle.derive_entries.specs.Views.{placing_of}
use Rattle.derive_entries.proofs.statements.places_of.Given as goal

abbrev pub invariant-loop-at : goal.invariant-loop-at
invariant-loop-at l = record {
  within : l.at ≤ length l.pieces;
  few : opened_within l.placing.reading.scope ≤ l.at;
  room : length (names_of l.places) ≤ 8192;
  rest : places_from (names_of l.arrays) (names_of l.places) (placing_of l.placing) (derived_all (drop l.at l.pieces))
      ≡ places_of (derived_all l.pieces);
}

abbrev pub decreases-loop-at : goal.decreases-loop-at
decreases-loop-at l = length l.pieces - l.at
