use Rattle.std.proofs.Common.{◌≡◌, ◌≤◌, ◌++◌, length, map, take}
use Rattle.derive_tokens.specs.Pieces.{derived_all}
use Rattle.derive_tokens.specs.Held.{names_of}
use Rattle.derive_statements.specs.Views.{token_of}
use Rattle.derive_expressions.specs.Calls.{heads_written}
use Rattle.derive_expressions.proofs.calls.put_heads.Given as goal

abbrev pub invariant-loop-at : goal.invariant-loop-at
invariant-loop-at l = record {
  within : l.at ≤ length l.heads;
  rest : derived_all l.out.items
      ++ heads_written (names_of l.messages) l.position (map token_of (take l.at l.heads))
      ≡ derived_all l.initial.out.items ++ heads_written (names_of l.messages) l.position (map token_of l.heads);
}

abbrev pub decreases-loop-at : goal.decreases-loop-at
decreases-loop-at l = l.at
