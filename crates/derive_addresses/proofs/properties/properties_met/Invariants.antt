use Rattle.std.proofs.Common.{◌≡◌, drop}
use Rattle.derive_tokens.specs.Pieces.{derived_all}
use Rattle.derive_tokens.specs.Held.{names_of}
use Rattle.derive_addresses.specs.Addresses.{properties_from, properties_of}
use Rattle.derive_addresses.proofs.properties.properties_met.Given as goal

abbrev pub invariant-loop-at : goal.invariant-loop-at
invariant-loop-at l =
    properties_from (names_of l.defined) (names_of l.properties) (derived_all (drop l.at l.pieces))
    ≡ properties_of (derived_all l.pieces)
