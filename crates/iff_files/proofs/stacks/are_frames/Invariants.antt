use Rattle.std.proofs.Common.{◌≡◌, length}
use Rattle.std.specs.Option.{is_some}
use Rattle.iff_files.specs.Frames.{frames_in, most_frames, most_words}
use Rattle.iff_files.proofs.stacks.are_frames.Given as goal

abbrev pub invariant-loop-rest : goal.invariant-loop-rest
invariant-loop-rest l =
    is_some (frames_in l.size l.frames l.words l.rest) ≡ is_some (frames_in l.size most_frames most_words l.bytes)

abbrev pub decreases-loop-rest : goal.decreases-loop-rest
decreases-loop-rest l = length l.rest
