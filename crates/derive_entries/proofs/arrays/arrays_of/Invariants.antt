use Rattle.std.proofs.Common.{◌≡◌, ◌≤◌, drop}
use Rattle.derive_tokens.specs.Pieces.{derived_all}
use Rattle.derive_tokens.specs.Held.{names_of}
use Rattle.derive_values.specs.Places.{opened_within}
use Rattle.derive_entries.specs.Arrays.{arrays_of}
use Rattle.derive_entries.proofs.Rough.{rough_arrays}
use Rattle.derive_entries.proofs.arrays.arrays_of.Given as goal

abbrev pub invariant-loop-piece : goal.invariant-loop-piece
invariant-loop-piece l = record {
  few : opened_within l.scope ≤ l.piece-index;
  rest : rough_arrays (names_of l.arrays) l.scope l.is_named (derived_all (drop l.piece-index l.pieces))
      ≡ arrays_of (derived_all l.pieces);
}
