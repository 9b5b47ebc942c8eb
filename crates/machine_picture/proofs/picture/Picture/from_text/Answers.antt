use Rattle.std.proofs.Common.{length, sym, ◌∙◌}
use Rattle.std.proofs.lemmas.Bool.{eqb-true}
use Rattle.machine_picture.specs.Drawing.{picture_of}
use Rattle.machine_picture.proofs.Cells.{begins_with, begins_with_nothing}
use Rattle.machine_picture.proofs.picture.Picture.from_text.Goals as goal

pub returns-then-is_empty : goal.returns-then-is_empty
returns-then-is_empty c = begins_with_nothing c.args.drawing.now c.args.seen (picture_of c.new-picture.result)
    (eqb-true (length c.args.drawing.now) 0 (sym c.is_empty.ensures ∙ c.if-is_empty.true)) c.new-picture.ensures

pub returns : goal.returns
returns c = begins_with c.args.drawing.now c.args.seen (picture_of c.new-picture.result) (picture_of c.draw.new.self)
    (picture_of c.go_to.new.self) c.new-picture.ensures c.in_ok-draw.ensures c.go_to.ensures
