use Rattle.std.proofs.Common.{true}
use Rattle.machine_standard_saves.specs.Written.{WritesFrames}
use Rattle.machine_standard_saves.proofs.keeping.put_frames.Given as goal

-- the frames before this one were written
abbrev pub invariant-loop-number : goal.invariant-loop-number
invariant-loop-number l = WritesFrames l.store.store l.number l.fn.out.items l.out.items true
