use Rattle.machine_picture.proofs.Showing.{row_at}
use Rattle.machine_picture.proofs.lines.row_of.Goals as goal

pub returns : goal.returns
returns c = row_at c.args.upper c.args.text.now c.new_lines_after.result c.new_lines_after.ensures.same
