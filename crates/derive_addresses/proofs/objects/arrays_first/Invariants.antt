use Rattle.std.proofs.Common.{◌≡◌, ◌≤◌, [], length, drop, fold}
use Rattle.derive_tokens.specs.Held.{names_of}
use Rattle.derive_values.specs.Values.{with_room}
use Rattle.derive_entries.specs.Arrays.{most_places}
use Rattle.derive_addresses.proofs.objects.arrays_first.Given as goal

abbrev pub invariant-loop-k : goal.invariant-loop-k
invariant-loop-k l = record {
  few : length (names_of l.places) ≤ 8192;
  rest : fold (with_room most_places) (names_of l.places) (drop l.k (names_of l.arrays))
      ≡ fold (with_room most_places) [] (names_of l.arrays);
}
