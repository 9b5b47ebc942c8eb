use Rattle.std.proofs.Common.{◌≡◌, ◌≤◌, ◌++◌, ◌+◌, ◌*◌, length, map}
use Rattle.derive_routines.specs.Held.{arm_of, search_of}
use Rattle.derive_routines.specs.Search.{levels, search_text}
use Rattle.derive_routines.proofs.search.put_search.Given as goal

abbrev pub invariant-loop-rounds : goal.invariant-loop-rounds
invariant-loop-rounds l = record {
  few : length l.arms.items ≤ 8192;
  low : l.k + 8192 * l.rounds ≤ 16385;
  rest : l.text.items ++ levels (search_of l.search) l.first l.count l.rounds l.k (map arm_of l.arms.items)
      ≡ l.initial.text.items ++ search_text (search_of l.search) l.first (map arm_of l.fn.values.items);
}

abbrev pub decreases-loop-rounds : goal.decreases-loop-rounds
decreases-loop-rounds l = l.rounds
