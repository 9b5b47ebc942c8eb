use Rattle.std.proofs.Common.{◌≡◌, ◌≤◌, length, take, drop}
use Rattle.derive_tokens.specs.Pieces.{derived_all}
use Rattle.derive_values.specs.Places.{opened_within}
use Rattle.derive_values.specs.Values.{valued, valued_from}
use Rattle.derive_tokens.specs.Held.{names_of}
use Rattle.derive_values.specs.Views.{numbers_held, reading_of}
use Rattle.derive_values.proofs.Outcomes.{put_all}
use Rattle.derive_values.proofs.values.valued.Given as goal

abbrev pub invariant-loop-at : goal.invariant-loop-at
invariant-loop-at l = record {
  few : opened_within l.reading.scope ≤ l.at;
  size : length l.out.items ≡ length l.pieces;
  same : drop l.at l.out.items ≡ drop l.at l.pieces;
  rest : put_all (derived_all (take l.at l.out.items))
      (valued_from (names_of l.routines) (numbers_held l.numbers) (reading_of l.reading)
      (derived_all (drop l.at l.pieces)))
      ≡ valued (derived_all l.pieces);
}
