use Rattle.std.proofs.Common.{◌≡◌, ◌≤◌, drop}
use Rattle.derive_tokens.specs.Pieces.{derived_all}
use Rattle.derive_values.specs.Places.{opened_within}
use Rattle.derive_statements.specs.Main.{has_locals, has_locals_from}
use Rattle.derive_statements.proofs.own_main.has_locals.Given as goal

abbrev pub invariant-loop-piece : goal.invariant-loop-piece
invariant-loop-piece l = record {
  few : opened_within l.scope ≤ l.piece-index;
  rest : has_locals_from l.scope l.in_main (derived_all (drop l.piece-index l.pieces))
      ≡ has_locals (derived_all l.pieces);
}
