-- The memory of a sound store.
use Rattle.std.proofs.Common.{◌≤◌, arith, drop, length}
use Rattle.std.proofs.lemmas.List.{length-append, length-drop}
use Rattle.machine_frames.specs.Contents.{Contents, memory_of}
use Rattle.machine_frames.specs.States.{IsSound}

pub long_memory : (s : Contents) → IsSound s → 64 ≤ length (memory_of s)
long_memory s sound = omega
    (arith, length-append (drop 72559 s.cells) s.fixed, length-drop 72559 s.cells, sound.size, sound.static_base)
