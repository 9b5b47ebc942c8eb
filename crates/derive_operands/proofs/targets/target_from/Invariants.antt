use Rattle.std.proofs.Common.{◌≡◌, ◌≤◌, ◌+◌, drop}
use Rattle.derive_tokens.specs.Pieces.{derived_all}
use Rattle.derive_operands.specs.Steps.{target_from}
use Rattle.derive_operands.specs.StepViews.{depth_in}
use Rattle.derive_operands.proofs.targets.target_from.Given as goal

abbrev pub invariant-loop-at : goal.invariant-loop-at
invariant-loop-at l = record {
  few : l.count ≤ l.at + l.met;
  shallow : depth_in l.chain ≤ l.at + l.met;
  rest : target_from l.count l.chain (derived_all (drop l.at l.pieces))
      ≡ target_from l.met l.fn.start (derived_all l.pieces);
}
