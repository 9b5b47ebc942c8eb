use Rattle.std.proofs.Common.{◌≡◌, ◌++◌, length}
use Rattle.ztext.specs.Words.{packed}
use Rattle.ztext.specs.TextParts.{AreSmall}
use Rattle.ztext.proofs.words.packed.Given as goal

abbrev pub invariant-loop-a : goal.invariant-loop-a
invariant-loop-a l = record { so_far : l.bytes.items ++ packed l.rest ≡ packed l.characters; small : AreSmall l.rest }

abbrev pub decreases-loop-a : goal.decreases-loop-a
decreases-loop-a l = length l.rest
