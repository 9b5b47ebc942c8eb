use Rattle.std.proofs.Common.{ap, refl, List, ℕ, ◌∙◌}
use Rattle.machine_picture.specs.Represented.{styles_of}
use Rattle.machine_picture.proofs.Showing.{gone_on}
use Rattle.machine_picture.proofs.styles.Styles.move_on.Goals as goal

pub returns-in-None : goal.returns-in-None
returns-in-None c upper was is = rw c.in-None.is refl

pub returns-in-Some : goal.returns-in-Some
returns-in-Some c upper was is =
    rw c.in-Some.is
    (c.leave.ensures
    ∙ ap (λ (l : List ℕ). record (styles_of c.args.self.now) { each = l })
    (gone_on upper _ was c.args.text.now (styles_of c.args.self.now).each c.args.line.now c.row_of.result
    c.new_lines_after-new_lines.result is c.row_of.ensures c.new_lines_after-new_lines.ensures.same))
