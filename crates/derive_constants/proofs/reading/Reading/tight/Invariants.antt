use Rattle.std.proofs.Common.{◌≡◌, reverse, length}
use Rattle.derive_constants.specs.Values.{tight}
use Rattle.derive_constants.proofs.reading.Reading.tight.Given as goal

abbrev pub invariant-loop-number : goal.invariant-loop-number
invariant-loop-number l = tight l.number (reverse l.self.waiting.items)
    ≡ tight l.initial.number (reverse l.initial.self.waiting.items)

abbrev pub decreases-loop-number : goal.decreases-loop-number
decreases-loop-number l = length l.self.waiting.items
