use Rattle.machine_standard_windows.proofs.Drawing.{row_is}
use Rattle.machine_standard_windows.proofs.windows.row_of.Goals as goal

pub returns : goal.returns
returns c = row_is c.args.upper c.args.text.now c.args.start c.place_at-at.result _ c.requires.begun
    c.place_at-at.ensures c.count_new_lines.ensures
