use Rattle.std.proofs.Common.{◌≡◌, ◌≤◌, ◌+◌, ◌∷◌, drop}
use Rattle.derive_tokens.specs.Pieces.{derived, derived_all}
use Rattle.derive_sums.specs.Sums.{count_from, count_of}
use Rattle.derive_sums.specs.Views.{count_held, depth_in, read_in}
use Rattle.derive_sums.proofs.counting.count_of.Given as goal

abbrev pub invariant-loop-next : goal.invariant-loop-next
invariant-loop-next l = record {
  few : depth_in l.count.part ≤ l.next-index + 1;
  met : read_in l.count.part l.count.met ≤ l.next-index + 1;
  rest : count_from (count_held l.count) (derived_all (drop l.next-index l.rest))
      ≡ count_of (derived l.fn.piece ∷ derived_all l.rest);
}
