use Rattle.std.proofs.Common.{◌-◌, length}
use Rattle.inform_places.specs.Source.{IsGathered}
use Rattle.inform.specs.Files.{BeginsWith}
use Rattle.inform.proofs.gathering.read_all.Given as goal

abbrev pub invariant-loop-wanted : goal.invariant-loop-wanted
invariant-loop-wanted l = BeginsWith l.fn.bytes.items l.gathering.written.items × IsGathered l.gathering

abbrev pub decreases-loop-wanted : goal.decreases-loop-wanted
decreases-loop-wanted l = 102 - length l.gathering.written.items
