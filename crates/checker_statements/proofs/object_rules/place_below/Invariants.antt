use Rattle.std.proofs.Common.{◌≡◌, ◌+◌, drop}
use Rattle.std.specs.Prelude.{map}
use Rattle.meaning.specs.Views.{property_of}
use Rattle.checker_statements.specs.Objects.{place_below}
use Rattle.checker_statements.proofs.object_rules.place_below.Given as goal

abbrev pub invariant-loop-i : goal.invariant-loop-i
invariant-loop-i l = l.i + place_below l.number (map property_of (drop l.i l.found))
    ≡ place_below l.number (map property_of l.found)
