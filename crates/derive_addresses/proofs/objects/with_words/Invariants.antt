use Rattle.std.proofs.Common.{◌≡◌, ◌≤◌, length, drop}
use Rattle.derive_tokens.specs.Pieces.{derived_all}
use Rattle.derive_tokens.specs.Held.{names_of}
use Rattle.derive_values.specs.Places.{opened_within}
use Rattle.derive_addresses.specs.Addresses.{places_from, with_addresses}
use Rattle.derive_addresses.proofs.objects.with_words.Given as goal

abbrev pub invariant-loop-piece : goal.invariant-loop-piece
invariant-loop-piece l = record {
  opened : opened_within l.scope ≤ l.piece-index;
  few : length (names_of l.places) ≤ 8192;
  rest : places_from (names_of l.properties) l.scope l.object.items (names_of l.places)
      (derived_all (drop l.piece-index l.pieces))
      ≡ with_addresses (names_of l.arrays) (derived_all l.pieces);
}
