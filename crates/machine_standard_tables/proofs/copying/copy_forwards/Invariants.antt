use Rattle.zcore_standard.specs.Tables.{copied_forwards}
use Rattle.machine_frames.specs.Contents.{memory_of}
use Rattle.machine_lines.specs.Lines.{Filled}
use Rattle.machine_standard_tables.proofs.copying.copy_forwards.Given as goal

abbrev pub invariant-loop-i : goal.invariant-loop-i
invariant-loop-i l = Filled l.fn.store l.store (copied_forwards (memory_of l.fn.store.store) l.first l.second l.i)
