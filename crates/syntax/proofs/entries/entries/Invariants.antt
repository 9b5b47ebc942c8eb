use Rattle.std.proofs.Common.{◌≡◌, ◌-◌}
use Rattle.syntax_trees.specs.Parse.{repeated}
use Rattle.syntax_trees.specs.Returned.{ahead}
use Rattle.syntax.specs.Parse as spec
use Rattle.syntax.specs.Parse.{parts_in}
use Rattle.syntax.proofs.EntriesRead.{gathered}
use Rattle.syntax.proofs.entries.entries.Given as goal

abbrev pub invariant-loop-turn : goal.invariant-loop-turn
invariant-loop-turn l =
    gathered (parts_in l.found)
    (repeated spec.goes_on (spec.one_entry l.fn.depth) (l._turn-end - l._turn) (ahead l.parser))
    ≡ spec.entries l.fn.depth (ahead l.fn.parser)
