use Rattle.std.proofs.Common.{◌≡◌, ◌++◌, ◌+◌, drop}
use Rattle.derive_routines.specs.Made.{choices_from}
use Rattle.derive_routines.specs.Held.{names_now}
use Rattle.derive_routines.proofs.made.put_choices.Given as goal

abbrev pub invariant-loop-k : goal.invariant-loop-k
invariant-loop-k l = l.text.items ++ choices_from (l.k + 1) (names_now (drop l.k l.names))
    ≡ l.initial.text.items ++ choices_from 1 (names_now l.names)
