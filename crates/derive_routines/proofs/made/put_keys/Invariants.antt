use Rattle.std.proofs.Common.{◌≡◌, ◌++◌, ◌+◌, drop}
use Rattle.derive_tokens.specs.Held.{names_of}
use Rattle.derive_routines.specs.Made.{or_texts}
use Rattle.derive_routines.proofs.made.put_keys.Given as goal

abbrev pub invariant-loop-k : goal.invariant-loop-k
invariant-loop-k l = l.text.items ++ or_texts (l.k + 1) (drop l.k (names_of l.keys))
    ≡ l.initial.text.items ++ or_texts 1 (names_of l.keys)
