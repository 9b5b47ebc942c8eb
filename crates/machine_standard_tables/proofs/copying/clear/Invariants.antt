use Rattle.zcore_standard.specs.Tables.{cleared}
use Rattle.machine_frames.specs.Contents.{memory_of}
use Rattle.machine_lines.specs.Lines.{Filled}
use Rattle.machine_standard_tables.proofs.copying.clear.Given as goal

abbrev pub invariant-loop-i : goal.invariant-loop-i
invariant-loop-i l = Filled l.fn.store l.store (cleared (memory_of l.fn.store.store) l.at l.i)
