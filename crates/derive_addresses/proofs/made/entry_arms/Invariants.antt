use Rattle.std.proofs.Common.{◌≡◌, ◌++◌, ◌+◌, length, map, drop}
use Rattle.derive_tokens.specs.Held.{names_of}
use Rattle.derive_routines.specs.Held.{arm_of}
use Rattle.derive_entries.specs.Arrays.{first_place}
use Rattle.derive_addresses.specs.Made.{entry_arms}
use Rattle.derive_addresses.specs.Views.{access_of}
use Rattle.derive_addresses.proofs.made.entry_arms.Given as goal

abbrev pub invariant-loop-k : goal.invariant-loop-k
invariant-loop-k l = record {
  count : length l.arms.items ≡ l.k;
  value : map arm_of l.arms.items ++ entry_arms (access_of l.access) (first_place + l.k) (drop l.k (names_of l.places))
      ≡ entry_arms (access_of l.access) first_place (names_of l.places);
}
