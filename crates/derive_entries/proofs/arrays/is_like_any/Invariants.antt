use Rattle.std.proofs.Common.{◌≡◌, false, take}
use Rattle.std.specs.List.{list_any}
use Rattle.derive_tokens.specs.Held.{names_of}
use Rattle.derive_entries.specs.Plain.{is_like}
use Rattle.derive_entries.proofs.arrays.is_like_any.Given as goal

abbrev pub invariant-loop-k : goal.invariant-loop-k
invariant-loop-k l = record {
  unlike : list_any (is_like l.name) (take l.k (names_of l.arrays)) ≡ false;
}
