use Rattle.std.proofs.Common.{◌≡◌, ◌≤◌, ◌-◌, ◌++◌, length, drop}
use Rattle.derive_tokens.specs.Pieces.{derived_all}
use Rattle.derive_tokens.specs.Held.{names_of}
use Rattle.derive_values.specs.Places.{opened_within}
use Rattle.derive_entries.specs.Entries.{entered, entered_from}
use Rattle.derive_entries.specs.Views.{entering_of}
use Rattle.derive_entries.proofs.entries.entered.Given as goal

abbrev pub invariant-loop-at : goal.invariant-loop-at
invariant-loop-at l = record {
  within : l.at ≤ length l.pieces;
  few : opened_within l.entering.placing.reading.scope ≤ l.at;
  rest : derived_all l.out.items
      ++ entered_from (names_of l.arrays) (names_of l.places) (entering_of l.entering) (derived_all (drop l.at l.pieces))
      ≡ entered (names_of l.arrays) (names_of l.places) (derived_all l.pieces);
}

abbrev pub decreases-loop-at : goal.decreases-loop-at
decreases-loop-at l = length l.pieces - l.at
