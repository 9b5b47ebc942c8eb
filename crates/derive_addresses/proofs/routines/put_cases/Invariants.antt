use Rattle.std.proofs.Common.{◌≡◌, ◌++◌, drop}
use Rattle.derive_tokens.specs.Held.{names_of}
use Rattle.derive_addresses.specs.Words.{cases_from}
use Rattle.derive_addresses.proofs.routines.put_cases.Given as goal

abbrev pub invariant-loop-k : goal.invariant-loop-k
invariant-loop-k l = l.text.items ++ cases_from l.k (drop l.k (names_of l.words))
    ≡ l.initial.text.items ++ cases_from 0 (names_of l.words)
