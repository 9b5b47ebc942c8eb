use Rattle.std.proofs.Common.{◌≡◌, ◌++◌, ◌+◌, length, map, drop}
use Rattle.derive_constants.specs.Held.{known_of}
use Rattle.derive_tokens.specs.Held.{names_of}
use Rattle.derive_values.specs.Values.{first_routine}
use Rattle.derive_routines.specs.Held.{arm_of}
use Rattle.derive_routines.specs.Made.{routine_arms}
use Rattle.derive_routines.proofs.made.routine_arms.Given as goal

abbrev pub invariant-loop-k : goal.invariant-loop-k
invariant-loop-k l = record {
  count : length l.arms.items ≡ l.k;
  value : map arm_of l.arms.items
      ++ routine_arms (known_of l.arities) (first_routine + l.k) (drop l.k (names_of l.routines))
      ≡ routine_arms (known_of l.arities) first_routine (names_of l.routines);
}
