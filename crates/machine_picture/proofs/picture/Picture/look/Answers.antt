use Rattle.std.proofs.Common.{arith, refl}
use Rattle.machine_picture.specs.Drawing.{picture_of}
use Rattle.machine_picture.proofs.Cells.{looked, looked_away}
use Rattle.machine_picture.proofs.picture.Picture.look.Goals as goal

pub returns-then-not-is_drawn : goal.returns-then-not-is_drawn
returns-then-not-is_drawn c = looked_away c.args.is_drawn c.args.text.now (picture_of c.args.self.now) _
    c.if-not-is_drawn.true refl

pub returns : goal.returns
returns c = looked c.args.is_drawn c.args.text.now c.min-from.result c.min-to.result _ _ (picture_of c.args.self.now)
    (picture_of c.draw_others.new.self) (picture_of c.draw.new.self) _ c.if-not-is_drawn.false
    (omega arith) (omega (arith, c.min-to.ensures)) refl refl c.in_ok-draw_others.ensures c.in_ok-draw.ensures refl
