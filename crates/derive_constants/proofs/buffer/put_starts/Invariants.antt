use Rattle.std.proofs.Common.{◌≡◌, ◌++◌, map, drop}
use Rattle.derive_tokens.specs.Pieces.{derived_all}
use Rattle.derive_constants.specs.Constants.{starts}
use Rattle.derive_constants.specs.Held.{buffer_of}
use Rattle.derive_constants.proofs.buffer.put_starts.Given as goal

abbrev pub invariant-loop-buffer : goal.invariant-loop-buffer
invariant-loop-buffer l =
    derived_all l.out.items ++ starts (map buffer_of (drop l.buffer-index l.buffers)) l.position
    ≡ derived_all l.initial.out.items ++ starts (map buffer_of l.buffers) l.position
