use Rattle.std.proofs.Common.{◌≡◌, ◌++◌, ◌+◌, drop}
use Rattle.derive_tokens.specs.Held.{names_of}
use Rattle.derive_entries.specs.Arrays.{first_place}
use Rattle.derive_addresses.specs.Made.{entry_routines}
use Rattle.derive_addresses.specs.Views.{access_of}
use Rattle.derive_addresses.proofs.made.put_entries.Given as goal

abbrev pub invariant-loop-k : goal.invariant-loop-k
invariant-loop-k l =
    l.text.items ++ entry_routines (access_of l.access) (first_place + l.k) (drop l.k (names_of l.places))
    ≡ l.initial.text.items ++ entry_routines (access_of l.access) first_place (names_of l.places)
