use Rattle.std.proofs.Common.{◌≡◌, ◌≤◌, ◌++◌, drop}
use Rattle.derive_tokens.specs.Pieces.{derived_all}
use Rattle.derive_values.specs.Places.{opened_within}
use Rattle.derive_tokens.specs.Held as held
use Rattle.derive_values.specs.Views as values
use Rattle.derive_statements.specs.Prints.{printed, printed_from}
use Rattle.derive_statements.specs.PrintViews.{printing_held}
use Rattle.derive_statements.proofs.prints.printed.Given as goal

abbrev pub invariant-loop-at : goal.invariant-loop-at
invariant-loop-at l = record {
  few : opened_within l.reading.scope ≤ l.at;
  rest : derived_all l.out.items
      ++ printed_from (held.names_of l.routines) (values.reading_of l.reading) (printing_held l.printing)
      (derived_all (drop l.at l.pieces))
      ≡ printed (derived_all l.pieces);
}
