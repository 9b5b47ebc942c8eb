use Rattle.std.proofs.Common.{◌≡◌, ◌≤◌}
use Rattle.derive_tokens.specs.Pieces.{derived_all}
use Rattle.derive_constants.specs.Cutting.{directives}
use Rattle.derive_classes.proofs.Cuts.{cut_at}
use Rattle.derive_classes.proofs.cutting.directive_length.Given as goal

abbrev pub invariant-loop-at : goal.invariant-loop-at
invariant-loop-at l = record {
  shallow : l.depth ≤ l.at;
  rest : cut_at l.depth l.at l.pieces ≡ directives (derived_all l.pieces);
}
