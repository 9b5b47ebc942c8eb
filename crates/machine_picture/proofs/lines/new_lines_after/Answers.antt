use Rattle.std.proofs.Common.{arith}
use Rattle.machine_picture.proofs.Showing.{lines_after}
use Rattle.machine_picture.proofs.lines.new_lines_after.Goals as goal

pub returns-clause-same : goal.returns-clause-same
returns-clause-same c = lines_after c.args.place c.min.result c.args.text.now c.new_lines.result
    (omega (arith, c.min.ensures)) c.new_lines.ensures.same
