use Rattle.std.proofs.Common.{◌≡◌, ◌++◌, length, take, drop}
use Rattle.derive_tokens.specs.Pieces.{derived_all}
use Rattle.derive_classes.specs.Classed.{tested}
use Rattle.derive_classes.proofs.pass.put_tests.Given as goal

abbrev pub invariant-loop-at : goal.invariant-loop-at
invariant-loop-at l = record {
  same : length l.pieces ≡ length l.initial.pieces;
  before : derived_all (take l.at l.pieces) ++ tested (derived_all (drop l.at l.pieces))
      ≡ tested (derived_all l.initial.pieces);
}
