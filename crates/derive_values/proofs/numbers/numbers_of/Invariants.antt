use Rattle.std.proofs.Common.{◌≡◌, ◌≤◌, length, drop}
use Rattle.derive_tokens.specs.Pieces.{derived_all}
use Rattle.derive_values.specs.Places.{opened_within}
use Rattle.derive_values.specs.Values.{numbers_from, numbers_of}
use Rattle.derive_tokens.specs.Held.{names_of}
use Rattle.derive_values.specs.Views.{numbers_held, reading_of}
use Rattle.derive_values.proofs.numbers.numbers_of.Given as goal

abbrev pub invariant-loop-at : goal.invariant-loop-at
invariant-loop-at l = record {
  few : opened_within l.reading.scope ≤ l.at;
  texts : length (names_of l.numbers.texts) ≤ 8192;
  routines : length (names_of l.numbers.routines) ≤ 8000;
  rest : numbers_from (names_of l.routines) (numbers_held l.numbers) (reading_of l.reading)
      (derived_all (drop l.at l.pieces))
      ≡ numbers_of (derived_all l.pieces);
}
