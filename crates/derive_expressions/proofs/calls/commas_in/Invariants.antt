use Rattle.std.proofs.Common.{◌≡◌, ◌≤◌, ◌+◌, drop}
use Rattle.derive_tokens.specs.Pieces.{derived_all}
use Rattle.derive_expressions.specs.Calls.{commas_from}
use Rattle.derive_expressions.proofs.calls.commas_in.Given as goal

abbrev pub invariant-loop-piece : goal.invariant-loop-piece
invariant-loop-piece l = record {
  few : l.commas ≤ l.piece-index;
  shallow : l.opened ≤ l.piece-index + 1;
  rest : commas_from l.commas l.opened (derived_all (drop l.piece-index l.pieces))
      ≡ commas_from 0 1 (derived_all l.pieces);
}
