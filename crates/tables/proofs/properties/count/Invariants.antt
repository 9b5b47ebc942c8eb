use Rattle.std.proofs.Common.{◌≡◌, ◌-◌, length}
use Rattle.tables.specs.Objects.{counted_in}
use Rattle.tables.proofs.properties.count.Given as goal

abbrev pub invariant-loop-count : goal.invariant-loop-count
invariant-loop-count l =
    counted_in l.story l.count l.at (length l.story - l.count) ≡ counted_in l.story 0 l.start (length l.story)
