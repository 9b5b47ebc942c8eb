use Rattle.std.proofs.Common.{◌≡◌, ◌≤◌, ◌++◌, drop, ◌-◌, length}
use Rattle.derive_tokens.specs.Pieces.{derived_all}
use Rattle.derive_values.specs.Places.{opened_within}
use Rattle.derive_statements.specs.Views.{file_names}
use Rattle.derive_operands.specs.Steps.{stepped, stepped_from}
use Rattle.derive_operands.specs.StepViews.{stepping_of}
use Rattle.derive_operands.proofs.steps.stepped.Given as goal

abbrev pub invariant-loop-at : goal.invariant-loop-at
invariant-loop-at l = record {
  within : l.at ≤ length l.pieces;
  few : opened_within l.stepping.calling.reading.scope ≤ l.at;
  rest : derived_all l.out.items
      ++ stepped_from (file_names l.names) (stepping_of l.stepping) (derived_all (drop l.at l.pieces))
      ≡ stepped (derived_all l.pieces);
}

abbrev pub decreases-loop-at : goal.decreases-loop-at
decreases-loop-at l = length l.pieces - l.at
