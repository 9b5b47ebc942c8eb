use Rattle.std.proofs.Common.{◌≡◌, drop}
use Rattle.derive_tokens.specs.Pieces.{derived_all}
use Rattle.derive_tokens.specs.Held.{names_of}
use Rattle.derive_addresses.specs.Addresses.{defined_from, defined_of}
use Rattle.derive_addresses.proofs.properties.defined_of.Given as goal

abbrev pub invariant-loop-at : goal.invariant-loop-at
invariant-loop-at l = defined_from (names_of l.names) (derived_all (drop l.at l.pieces)) ≡ defined_of (derived_all l.pieces)
