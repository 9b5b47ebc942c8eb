use Rattle.std.proofs.Common.{◌≡◌, ◌++◌, ◌+◌, drop}
use Rattle.derive_tokens.specs.Held.{names_of}
use Rattle.derive_addresses.specs.Addresses.{addresses_made, declared_from}
use Rattle.derive_addresses.proofs.addresses.put_addresses_made.Given as goal

abbrev pub invariant-loop-k : goal.invariant-loop-k
invariant-loop-k l = l.text.items ++ declared_from (l.k + 1) (drop l.k (names_of l.properties))
    ≡ l.initial.text.items ++ addresses_made (names_of l.properties)
