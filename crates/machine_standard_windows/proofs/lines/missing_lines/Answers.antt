use Rattle.std.proofs.Common.{arith}
use Rattle.machine_standard_windows.proofs.TextLines.{ended_already, ended_now, line_of_none, line_over, line_goes_on}
use Rattle.machine_standard_windows.proofs.lines.missing_lines.Goals as goal

pub returns-then-text-eq0-clause-lines : goal.returns-then-text-eq0-clause-lines
returns-then-text-eq0-clause-lines c =
    ended_already c.args.text.now (line_of_none c.args.text.now c.if-text-eq0.true)

pub returns-then-text-eq10-clause-lines : goal.returns-then-text-eq10-clause-lines
returns-then-text-eq10-clause-lines c = ended_already c.args.text.now
    (line_over c.args.text.now (omega (arith, c.if-text-eq0.false)) c.if-text-eq10.true)

pub returns-else-text-eq10-clause-lines : goal.returns-else-text-eq10-clause-lines
returns-else-text-eq10-clause-lines c = ended_now c.args.text.now
    (line_goes_on c.args.text.now (omega (arith, c.if-text-eq0.false)) c.if-text-eq10.false)
