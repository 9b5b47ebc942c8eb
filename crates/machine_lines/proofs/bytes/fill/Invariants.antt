use Rattle.std.proofs.Common.{take}
use Rattle.zcore.specs.Turn.{with_bytes}
use Rattle.machine_frames.specs.Contents.{memory_of}
use Rattle.machine_lines.specs.Lines.{Filled}
use Rattle.machine_lines.proofs.bytes.fill.Given as goal

abbrev pub invariant-loop-i : goal.invariant-loop-i
invariant-loop-i l = Filled l.fn.store l.store (with_bytes (memory_of l.fn.store.store) l.at (take l.i l.bytes))
