use Rattle.std.specs.Vec.{vec_len}
use Rattle.machine_picture.specs.Represented.{styles_of}
use Rattle.machine_picture.proofs.Lengthening.{longer}
use Rattle.machine_picture.proofs.styles.Styles.become_as_long.Goals as goal

pub returns : goal.returns
returns c =
    longer c.resize.result c.args.count (vec_len c.args.self.now.each) c.args.style (styles_of c.args.self.now) _
    c.args.self.now.each.ok.0 c.resize.ensures.items
