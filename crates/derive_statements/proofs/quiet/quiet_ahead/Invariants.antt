use Rattle.std.proofs.Common.{◌≡◌, ◌≤◌, drop, true}
use Rattle.derive_tokens.specs.Pieces.{derived_all}
use Rattle.derive_values.specs.Places.{is_at_rest}
use Rattle.derive_statements.specs.Quiet.{quiet_from, quiet_run}
use Rattle.derive_statements.proofs.quiet.quiet_ahead.Given as goal

abbrev pub invariant-loop-at : goal.invariant-loop-at
invariant-loop-at l = record {
  within : l.last ≤ l.at;
  at_rest : is_at_rest l.scope ≡ true;
  rest : quiet_from l.seek l.scope l.last l.at (derived_all (drop l.at l.pieces))
      ≡ quiet_run l.seek l.scope (derived_all l.pieces);
}
