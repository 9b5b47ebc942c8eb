use Rattle.std.proofs.Common.{◌≡◌, length}
use Rattle.iff_files.specs.Chunks.{part_in}
use Rattle.iff_files.proofs.FoundChunks.{left_in}
use Rattle.iff_files.proofs.chunks.find_part.Given as goal

abbrev pub invariant-loop-rest : goal.invariant-loop-rest
invariant-loop-rest l = left_in l.part l.found l.rest ≡ part_in l.part l.bytes

abbrev pub decreases-loop-rest : goal.decreases-loop-rest
decreases-loop-rest l = length l.rest
