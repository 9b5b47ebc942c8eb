use Rattle.std.proofs.Common.{◌≡◌, ◌≤◌, ◌+◌, ◌++◌, drop}
use Rattle.derive_tokens.specs.Pieces.{derived_all}
use Rattle.derive_tokens.specs.Held.{names_of}
use Rattle.derive_values.specs.Places.{opened_within}
use Rattle.derive_entries.specs.Entries.{entered_from}
use Rattle.derive_entries.specs.Operands.{arrow_ahead}
use Rattle.derive_entries.specs.Views.{entering_of}
use Rattle.derive_entries.proofs.entries.Entering.put_exact.Given as goal

abbrev pub invariant-loop-at : goal.invariant-loop-at
invariant-loop-at l = record {
  few : opened_within l.self.placing.reading.scope ≤ opened_within l.initial.self.placing.reading.scope + l.at;
  ahead : l.is_ahead ≡ arrow_ahead (derived_all (drop l.at l.pieces));
  rest : derived_all l.out.items
      ++ entered_from (names_of l.arrays) (names_of l.places) (entering_of l.self) (derived_all (drop l.at l.pieces))
      ≡ derived_all l.initial.out.items
      ++ entered_from (names_of l.arrays) (names_of l.places) (entering_of l.initial.self) (derived_all l.pieces);
}
