use Rattle.std.proofs.Common.{arith}
use Rattle.machine_picture.proofs.Erasing.{erased_more, erased_none}
use Rattle.machine_picture.proofs.redrawing.erase_cells.Goals as goal

pub loop-i-init : goal.loop-i-init
loop-i-init c = record { so_far = erased_none c.args.from c.args.from c.args.cells.now.items (omega arith) }

pub loop-i-preserved : goal.loop-i-preserved
loop-i-preserved c = record {
  so_far = erased_more c.args.from c.loop-i.i c.args.cells.now.items _ (omega arith) (omega arith)
      c.loop-i.invariant.so_far;
}
