use Rattle.machine_standard_windows.proofs.Drawing.{apart_are}
use Rattle.machine_standard_windows.proofs.windows.lines_around.Goals as goal

pub returns-clause-apart : goal.returns-clause-apart
returns-clause-apart c = apart_are c.args.start c.args.begin c.args.end _ _ c.args.text.now c.requires.after
    c.missing_lines.ensures.lines c.missing_lines-2.ensures.lines
