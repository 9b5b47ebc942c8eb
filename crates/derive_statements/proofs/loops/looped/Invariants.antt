use Rattle.std.proofs.Common.{◌≡◌, ◌≤◌, ◌++◌, ◌-◌, drop, length}
use Rattle.derive_tokens.specs.Pieces.{derived_all}
use Rattle.derive_values.specs.Places.{opened_within}
use Rattle.derive_values.specs.Views.{reading_of}
use Rattle.derive_statements.specs.Loops.{looped, looped_from}
use Rattle.derive_statements.specs.Views.{file_names, token_of}
use Rattle.derive_statements.proofs.loops.looped.Given as goal

abbrev pub invariant-loop-at : goal.invariant-loop-at
invariant-loop-at l = record {
  within : l.at ≤ length l.pieces;
  few : opened_within l.reading.scope ≤ l.at;
  rest : derived_all l.out.items
      ++ looped_from (file_names l.names) (reading_of l.reading) l.looping.spaced (token_of l.looping.variable)
      (derived_all (drop l.at l.pieces))
      ≡ looped (derived_all l.pieces);
}

abbrev pub decreases-loop-at : goal.decreases-loop-at
decreases-loop-at l = length l.pieces - l.at
