use Rattle.std.proofs.Common.{◌≡◌, ◌≤◌, ◌-◌, drop, length}
use Rattle.derive_tokens.specs.Pieces.{derived_all}
use Rattle.derive_values.specs.Places.{opened_within}
use Rattle.derive_tokens.specs.Held.{names_of}
use Rattle.derive_statements.specs.Views.{file_names}
use Rattle.derive_expressions.specs.Calls.{messages_from, messages_of}
use Rattle.derive_expressions.specs.Views.{calling_of}
use Rattle.derive_expressions.proofs.calls.messages_of.Given as goal

abbrev pub invariant-loop-at : goal.invariant-loop-at
invariant-loop-at l = record {
  within : l.at ≤ length l.pieces;
  few : opened_within l.calling.reading.scope ≤ l.at;
  rest : messages_from (file_names l.names) (names_of l.messages) (calling_of l.calling)
      (derived_all (drop l.at l.pieces))
      ≡ messages_of (file_names l.names) (derived_all l.pieces);
}

abbrev pub decreases-loop-at : goal.decreases-loop-at
decreases-loop-at l = length l.pieces - l.at
