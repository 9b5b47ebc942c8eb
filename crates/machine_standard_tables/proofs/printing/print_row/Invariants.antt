use Rattle.std.proofs.Common.{take, drop, Ok}
use Rattle.zcore_standard.specs.Characters.{print_codes}
use Rattle.machine_opcodes.specs.Printed.{Grew}
use Rattle.machine_frames.specs.Contents.{memory_of}
use Rattle.machine_frames.specs.Went.{Told}
use Rattle.machine_standard_tables.proofs.printing.print_row.Given as goal

abbrev pub invariant-loop-i : goal.invariant-loop-i
invariant-loop-i l = record {
  told : Told (Ok tt) l.fn.store (drop l.start l.fn.text.items) l.store (drop l.start l.text.items)
      (print_codes l.characters (take l.i (drop l.at (memory_of l.fn.store.store))));
  grew : Grew l.start l.fn.text.items l.text.items;
}
