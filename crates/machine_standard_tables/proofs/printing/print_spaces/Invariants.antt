use Rattle.std.proofs.Common.{drop, replicate, Ok}
use Rattle.zcore_standard.specs.Characters.{print_codes}
use Rattle.machine_opcodes.specs.Printed.{Grew}
use Rattle.machine_frames.specs.Went.{Told}
use Rattle.machine_standard_tables.proofs.printing.print_spaces.Given as goal

abbrev pub invariant-loop : goal.invariant-loop
invariant-loop l = record {
  told : Told (Ok tt) l.fn.store (drop l.start l.fn.text.items) l.store (drop l.start l.text.items)
      (print_codes l.characters (replicate l.counter 32));
  grew : Grew l.start l.fn.text.items l.text.items;
}
