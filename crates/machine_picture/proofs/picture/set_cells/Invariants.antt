use Rattle.std.proofs.Common.{◌≡◌, ◌≤◌, ◌+◌, drop, length}
use Rattle.machine_picture.specs.Drawing.{with_cells}
use Rattle.machine_picture.proofs.picture.set_cells.Given as goal

abbrev pub invariant-loop-i : goal.invariant-loop-i
invariant-loop-i l = record {
  enough : l.at + length l.characters ≤ length l.cells.items;
  so_far : with_cells (l.at + l.i) (drop l.i l.characters) l.cells.items
      ≡ with_cells l.at l.characters l.fn.cells.items;
}
