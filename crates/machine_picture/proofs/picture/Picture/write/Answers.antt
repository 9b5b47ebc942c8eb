use Rattle.machine_picture.specs.Drawing.{picture_of}
use Rattle.machine_picture.proofs.Cells.{drops, on_ok, puts}
use Rattle.machine_picture.proofs.picture.Picture.write.Goals as goal

pub returns-then-not-is_inside : goal.returns-then-not-is_inside
returns-then-not-is_inside c = drops c.is_inside.result c.args.character (picture_of c.args.self.now) c.is_inside.ensures
    c.if-not-is_inside.true

pub returns : goal.returns
returns c = on_ok c.set_cell.result
    (λ e. puts c.is_inside.result c.args.character c.cell_at-at.result (picture_of c.args.self.now) _ c.is_inside.ensures
    c.if-not-is_inside.false c.cell_at-at.ensures.same e) c.set_cell.ensures
