use Rattle.std.proofs.Common.{◌≡◌, ◌++◌, drop}
use Rattle.derive_addresses.specs.Words.{fitting, shown}
use Rattle.derive_addresses.proofs.routines.put_shown.Given as goal

abbrev pub invariant-loop-byte : goal.invariant-loop-byte
invariant-loop-byte l = l.text.items ++ fitting l.room (drop l.byte-index l.word)
    ≡ l.initial.text.items ++ shown l.word
