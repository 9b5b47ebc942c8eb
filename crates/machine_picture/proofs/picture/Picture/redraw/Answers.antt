use Rattle.std.proofs.Common.{ap, refl, sym, ◌∙◌}
use Rattle.machine_picture.specs.Drawing.{picture_of}
use Rattle.machine_picture.specs.Picture.{Picture}
use Rattle.machine_picture.proofs.Others.{no_table}
use Rattle.machine_picture.proofs.picture.Picture.redraw.Goals as goal

pub returns-in-PrintTable : goal.returns-in-PrintTable
returns-in-PrintTable c = rw c.in-PrintTable.is refl

pub returns-in_default : goal.returns-in_default
returns-in_default c =
    ap (λ (p : Picture). record p { seen = c.args.seen; until = 0 }) c.perform.ensures
    ∙ sym (no_table c.args.version c.args.operation c.args.window c.args.values.now c.args.seen
    (picture_of c.args.self.now) c.in_default.not-PrintTable)
