use Rattle.std.proofs.Common.{◌≡◌, ◌≤◌, ◌++◌, drop}
use Rattle.derive_tokens.specs.Pieces.{derived_all}
use Rattle.derive_tokens.specs.Held.{names_of}
use Rattle.derive_values.specs.Places.{opened_within}
use Rattle.derive_addresses.specs.Addresses.{addressed, addressed_from}
use Rattle.derive_addresses.proofs.addresses.addressed.Given as goal

abbrev pub invariant-loop-at : goal.invariant-loop-at
invariant-loop-at l = record {
  opened : opened_within l.scope ≤ l.at;
  rest : derived_all l.out.items
      ++ addressed_from (names_of l.properties) (names_of l.places) l.scope l.object.items l.is_named
      (derived_all (drop l.at l.pieces))
      ≡ addressed (names_of l.properties) (names_of l.places) (derived_all l.pieces);
}
