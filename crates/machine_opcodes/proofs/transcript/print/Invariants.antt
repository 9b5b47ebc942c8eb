use Rattle.std.proofs.Common.{take, drop, Ok}
use Rattle.zcore.specs.Parts.{print}
use Rattle.machine_opcodes.specs.Printed.{Grew}
use Rattle.machine_frames.specs.Went.{Told}
use Rattle.machine_opcodes.proofs.transcript.print.Given as goal

abbrev pub invariant-loop-character : goal.invariant-loop-character
invariant-loop-character l = record {
  told : Told (Ok tt) l.fn.store (drop l.start l.fn.text.items) l.store (drop l.start l.text.items)
      (print (take l.character-index l.characters));
  grew : Grew l.start l.fn.text.items l.text.items;
}
