use Rattle.std.proofs.Common.{◌≡◌, ◌++◌, drop}
use Rattle.derive_routines.specs.Search.{spaced}
use Rattle.derive_routines.specs.Held.{names_now}
use Rattle.derive_routines.proofs.texts.put_spaced.Given as goal

abbrev pub invariant-loop-name : goal.invariant-loop-name
invariant-loop-name l = l.text.items ++ spaced (names_now (drop l.name-index l.names))
    ≡ l.initial.text.items ++ spaced (names_now l.names)
