use Rattle.std.proofs.Common.{◌≡◌, ◌≤◌, ◌+◌, drop}
use Rattle.derive_tokens.specs.Pieces.{derived_all}
use Rattle.derive_statements.specs.Lists.{is_listed, is_listed_from}
use Rattle.derive_statements.proofs.lists.is_listed.Given as goal

abbrev pub invariant-loop-piece : goal.invariant-loop-piece
invariant-loop-piece l = record {
  few : l.depth ≤ l.piece-index + 1;
  rest : is_listed_from l.wanted l.comma l.depth (derived_all (drop l.piece-index l.pieces))
      ≡ is_listed l.wanted l.opened (derived_all l.pieces);
}
