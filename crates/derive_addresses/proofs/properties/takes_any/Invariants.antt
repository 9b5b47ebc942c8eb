use Rattle.std.proofs.Common.{◌≡◌, drop}
use Rattle.derive_tokens.specs.Pieces.{derived_all}
use Rattle.derive_addresses.specs.Addresses.{takes_any}
use Rattle.derive_addresses.proofs.properties.takes_any.Given as goal

abbrev pub invariant-loop-at : goal.invariant-loop-at
invariant-loop-at l = takes_any (derived_all (drop l.at l.pieces)) ≡ takes_any (derived_all l.pieces)
