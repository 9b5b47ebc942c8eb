use Rattle.std.proofs.Common.{◌≡◌, ◌++◌, drop}
use Rattle.derive_routines.specs.Made.{or_tests}
use Rattle.derive_routines.specs.Held.{names_now}
use Rattle.derive_routines.proofs.made.put_any.Given as goal

abbrev pub invariant-loop-name : goal.invariant-loop-name
invariant-loop-name l = l.text.items ++ or_tests l.operator (names_now (drop l.name-index l.others))
    ≡ l.initial.text.items ++ or_tests l.operator (names_now l.others)
