use Rattle.std.proofs.Common.{◌≡◌, ◌++◌, drop}
use Rattle.derive_tokens.specs.Held.{names_of}
use Rattle.derive_addresses.specs.Words.{calls_from}
use Rattle.derive_addresses.proofs.routines.put_calls.Given as goal

abbrev pub invariant-loop-k : goal.invariant-loop-k
invariant-loop-k l = l.text.items ++ calls_from l.k (drop l.k (names_of l.words))
    ≡ l.initial.text.items ++ calls_from 0 (names_of l.words)
