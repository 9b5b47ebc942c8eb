use Rattle.std.proofs.Common.{◌≡◌, ◌≤◌, ◌++◌, drop, ◌-◌, length}
use Rattle.derive_tokens.specs.Pieces.{derived_all}
use Rattle.derive_values.specs.Places.{opened_within}
use Rattle.derive_tokens.specs.Held.{names_of}
use Rattle.derive_operands.specs.Alternatives.{chosen, chosen_from}
use Rattle.derive_operands.specs.AlternativeViews.{choosing_of}
use Rattle.derive_operands.proofs.alternatives.chosen.Given as goal

abbrev pub invariant-loop-at : goal.invariant-loop-at
invariant-loop-at l = record {
  within : l.at ≤ length l.pieces;
  few : opened_within l.choosing.scope ≤ l.at;
  rest : derived_all l.out.items
      ++ chosen_from (names_of l.keys) (choosing_of l.choosing) (derived_all (drop l.at l.pieces))
      ≡ chosen (derived_all l.pieces);
}

abbrev pub decreases-loop-at : goal.decreases-loop-at
decreases-loop-at l = length l.pieces - l.at
