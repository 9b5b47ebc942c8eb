use Rattle.std.proofs.Common.{◌≡◌, ◌++◌, drop}
use Rattle.derive_routines.specs.Search.{after_commas}
use Rattle.derive_routines.specs.Held.{names_now}
use Rattle.derive_routines.proofs.texts.put_parted.Given as goal

abbrev pub invariant-loop-name : goal.invariant-loop-name
invariant-loop-name l = l.text.items ++ after_commas (names_now (drop l.name-index l.others))
    ≡ l.initial.text.items ++ after_commas (names_now l.others)
