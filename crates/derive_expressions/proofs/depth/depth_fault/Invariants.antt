use Rattle.std.proofs.Common.{◌≡◌, ◌≤◌, drop}
use Rattle.derive_tokens.specs.Pieces.{derived_all}
use Rattle.derive_expressions.specs.Depth.{depth_fault, depth_fault_from}
use Rattle.derive_expressions.proofs.depth.depth_fault.Given as goal

abbrev pub invariant-loop-piece : goal.invariant-loop-piece
invariant-loop-piece l = record {
  few : l.depth ≤ 100;
  rest : depth_fault_from l.depth (derived_all (drop l.piece-index l.pieces)) ≡ depth_fault (derived_all l.pieces);
}
