use Rattle.std.proofs.Common.{◌≡◌, ◌≤◌, ◌+◌, [], map, drop}
use Rattle.derive_tokens.specs.Pieces.{derived_all}
use Rattle.derive_statements.specs.Views.{token_of}
use Rattle.derive_expressions.specs.Heads.{heads_from}
use Rattle.derive_expressions.specs.Views.{chain_held}
use Rattle.derive_expressions.proofs.heads.heads_from.Given as goal

abbrev pub invariant-loop-piece : goal.invariant-loop-piece
invariant-loop-piece l = record {
  few : l.chain.depth ≤ l.piece-index + 1;
  rest : heads_from (map token_of l.heads.items) (chain_held l.chain) (derived_all (drop l.piece-index l.pieces))
      ≡ heads_from [] (chain_held l.fn.start) (derived_all l.pieces);
}
