use Rattle.std.proofs.Common.{◌≡◌, ◌++◌, ◌+◌, length, map, drop}
use Rattle.derive_tokens.specs.Held.{names_of}
use Rattle.derive_values.specs.Values.{first_text}
use Rattle.derive_routines.specs.Held.{arm_of}
use Rattle.derive_routines.specs.Made.{text_arms}
use Rattle.derive_routines.proofs.made.text_arms.Given as goal

abbrev pub invariant-loop-k : goal.invariant-loop-k
invariant-loop-k l = record {
  count : length l.arms.items ≡ l.k;
  value : map arm_of l.arms.items ++ text_arms (first_text + l.k) (drop l.k (names_of l.texts))
      ≡ text_arms first_text (names_of l.texts);
}
