use Rattle.std.specs.Vec.{vec_len}
use Rattle.machine_picture.specs.Represented.{styles_of}
use Rattle.machine_picture.proofs.Lengthening.{begins}
use Rattle.machine_picture.proofs.styles.Styles.begin.Goals as goal

pub returns : goal.returns
returns c =
    begins c.resize.result c.args.long (vec_len c.clear.new.self) (styles_of c.args.self.now) c.clear.new.self.items _
    c.clear.ensures.items c.clear.ensures.len c.resize.ensures.items
