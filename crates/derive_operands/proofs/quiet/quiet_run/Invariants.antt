use Rattle.std.proofs.Common.{◌≡◌, ◌≤◌, drop}
use Rattle.derive_tokens.specs.Pieces.{derived_all}
use Rattle.derive_operands.specs.Quiet.{quiet_from, quiet_run, run}
use Rattle.derive_operands.proofs.quiet.quiet_run.Given as goal

abbrev pub invariant-loop-at : goal.invariant-loop-at
invariant-loop-at l = record {
  few : l.depth ≤ l.at;
  within : l.last ≤ l.at;
  rest : quiet_from l.steps (run l.last l.last_area) l.at l.depth l.area (derived_all (drop l.at l.pieces))
      ≡ quiet_run l.steps l.fn.start (derived_all l.pieces);
}
