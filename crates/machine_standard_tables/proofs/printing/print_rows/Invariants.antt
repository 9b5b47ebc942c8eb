use Rattle.std.proofs.Common.{drop, Ok}
use Rattle.zcore_standard.specs.Characters.{print_codes}
use Rattle.zcore_standard.specs.Tables.{rows}
use Rattle.machine_opcodes.specs.Printed.{Grew}
use Rattle.machine_frames.specs.Contents.{memory_of}
use Rattle.machine_frames.specs.Went.{Told}
use Rattle.machine_standard_tables.proofs.printing.print_rows.Given as goal

abbrev pub invariant-loop-row : goal.invariant-loop-row
invariant-loop-row l = record {
  told : Told (Ok tt) l.fn.store (drop l.start l.fn.text.items) l.store (drop l.start l.text.items)
      (print_codes l.characters (rows (memory_of l.fn.store.store) l.table l.width l.skip l.indent l.row));
  grew : Grew l.start l.fn.text.items l.text.items;
}
