use Rattle.std.proofs.Common.{◌≡◌, ◌≤◌, ◌+◌, ◌∷◌, drop, fold}
use Rattle.derive_tokens.specs.Pieces.{derived, derived_all}
use Rattle.derive_sums.specs.Sums.{depth_of, operator_in, operator_of, shape_after}
use Rattle.derive_sums.specs.Views.{shape_held}
use Rattle.derive_sums.proofs.looking.operator_of.Given as goal

abbrev pub invariant-loop-next : goal.invariant-loop-next
invariant-loop-next l = record {
  few : depth_of (shape_held l.shape) ≤ l.next-index + 1;
  rest : operator_in (fold shape_after (shape_held l.shape) (derived_all (drop l.next-index l.rest)))
      ≡ operator_of (derived l.fn.piece ∷ derived_all l.rest);
}
