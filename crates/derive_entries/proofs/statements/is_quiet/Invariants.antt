use Rattle.std.proofs.Common.{◌≡◌, ◌≤◌, false, drop}
use Rattle.derive_tokens.specs.Pieces.{derived_all}
use Rattle.derive_entries.specs.Plain.{quiet}
use Rattle.derive_entries.proofs.statements.is_quiet.Given as goal

abbrev pub invariant-loop-piece : goal.invariant-loop-piece
invariant-loop-piece l = record {
  few : l.depth ≤ l.piece-index;
  rest : quiet l.depth l.is_behind_dot (derived_all (drop l.piece-index l.pieces)) ≡ quiet 0 false (derived_all l.pieces);
}
