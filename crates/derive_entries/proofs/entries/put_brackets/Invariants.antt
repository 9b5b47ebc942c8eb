use Rattle.std.proofs.Common.{◌≡◌, ◌++◌}
use Rattle.derive_tokens.specs.Pieces.{derived, derived_all}
use Rattle.derive_entries.specs.Entries.{closing}
use Rattle.derive_entries.proofs.entries.put_brackets.Given as goal

abbrev pub invariant-loop-left : goal.invariant-loop-left
invariant-loop-left l =
    derived_all l.out.items ++ closing l.left (derived l.piece)
    ≡ derived_all l.initial.out.items ++ closing l.count (derived l.piece)

abbrev pub decreases-loop-left : goal.decreases-loop-left
decreases-loop-left l = l.left
