use Rattle.std.proofs.Common.{◌≡◌, ◌≤◌, ◌++◌, ◌-◌, drop, length}
use Rattle.derive_tokens.specs.Pieces.{derived_all}
use Rattle.derive_values.specs.Lifted.{lifted, lifted_from}
use Rattle.derive_values.specs.Views.{lifting_of}
use Rattle.derive_values.proofs.lifting.lifted.Given as goal

abbrev pub invariant-loop-at : goal.invariant-loop-at
invariant-loop-at l = record {
  within : l.at ≤ length l.pieces;
  few : l.lifting.count ≤ l.at;
  rest : derived_all l.out.items ++ lifted_from (lifting_of l.lifting) (derived_all (drop l.at l.pieces))
      ≡ lifted (derived_all l.pieces);
}

abbrev pub decreases-loop-at : goal.decreases-loop-at
decreases-loop-at l = length l.pieces - l.at
