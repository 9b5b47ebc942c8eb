use Rattle.std.proofs.Common.{arith}
use Rattle.machine_picture.specs.Drawing.{picture_of}
use Rattle.machine_picture.proofs.Erasing.{row_gone, row_kept}
use Rattle.machine_picture.proofs.picture.Picture.erase_row.Goals as goal

pub returns-then-to-from : goal.returns-then-to-from
returns-then-to-from c = row_kept (picture_of c.args.self.now) (omega (arith, c.cell_at-from.ensures.same))

pub returns : goal.returns
returns c = row_gone (picture_of c.args.self.now) _ _ _ c.cell_at-from.ensures.same (omega arith)
    c.erase_cells.ensures
