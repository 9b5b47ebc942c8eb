use Rattle.std.proofs.Common.{◌≡◌}
use Rattle.machine_picture.specs.Picture.{erased}
use Rattle.machine_picture.proofs.redrawing.erase_cells.Given as goal

abbrev pub invariant-loop-i : goal.invariant-loop-i
invariant-loop-i l = record {
  so_far : l.cells.items ≡ erased l.from l.i l.fn.cells.items;
}
