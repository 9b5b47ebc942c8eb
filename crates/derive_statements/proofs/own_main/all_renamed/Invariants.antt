use Rattle.std.proofs.Common.{◌≡◌, ◌≤◌, ◌++◌, drop}
use Rattle.derive_tokens.specs.Pieces.{derived_all}
use Rattle.derive_values.specs.declared.places.Scope.TheVariants as scopes
use Rattle.derive_values.specs.Places.{opened_within}
use Rattle.derive_statements.specs.Main.{renamed_from}
use Rattle.derive_statements.proofs.own_main.all_renamed.Given as goal

abbrev pub invariant-loop-piece : goal.invariant-loop-piece
invariant-loop-piece l = record {
  few : opened_within l.scope ≤ l.piece-index;
  rest : derived_all l.out.items ++ renamed_from l.scope (derived_all (drop l.piece-index l.pieces))
      ≡ renamed_from scopes.Between (derived_all l.pieces);
}
