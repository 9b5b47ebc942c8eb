use Rattle.std.proofs.Common.{◌≡◌, ◌++◌, ◌+◌, ◌-◌, length, map}
use Rattle.derive_routines.specs.Held.{arm_of, search_of}
use Rattle.derive_routines.specs.Search.{group_arms, group_texts}
use Rattle.derive_routines.proofs.search.put_groups.Given as goal

abbrev pub invariant-loop-j : goal.invariant-loop-j
invariant-loop-j l = record {
  made : length l.next.items ≡ l.j;
  text : l.text.items ++ group_texts (search_of l.search) (l.count - l.j) (l.k + l.j) (map arm_of l.rest)
      ≡ l.initial.text.items ++ group_texts (search_of l.search) l.count l.k (map arm_of l.arms);
  rest : map arm_of l.next.items ++ group_arms (search_of l.search) (l.count - l.j) (l.k + l.j) (map arm_of l.rest)
      ≡ group_arms (search_of l.search) l.count l.k (map arm_of l.arms);
}
