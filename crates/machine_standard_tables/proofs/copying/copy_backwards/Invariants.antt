use Rattle.machine_frames.specs.Contents.{memory_of}
use Rattle.machine_lines.specs.Lines.{Filled}
use Rattle.machine_standard_tables.proofs.Bytes.{copied_from}
use Rattle.machine_standard_tables.proofs.copying.copy_backwards.Given as goal

abbrev pub invariant-loop-i : goal.invariant-loop-i
invariant-loop-i l = Filled l.fn.store l.store
    (copied_from (memory_of l.fn.store.store) l.first l.second l.count l.i)
