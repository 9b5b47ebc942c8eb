use Rattle.std.proofs.Common.{◌≡◌, ◌≤◌, drop}
use Rattle.derive_tokens.specs.Pieces.{derived_all}
use Rattle.derive_expressions.specs.Quiet.{quiet_from, quiet_length}
use Rattle.derive_expressions.proofs.quiet.quiet_length.Given as goal

abbrev pub invariant-loop-at : goal.invariant-loop-at
invariant-loop-at l = record {
  within : l.last ≤ l.at;
  rest : quiet_from l.calls l.last l.at l.behind (derived_all (drop l.at l.pieces))
      ≡ quiet_length l.calls (derived_all l.pieces);
}
