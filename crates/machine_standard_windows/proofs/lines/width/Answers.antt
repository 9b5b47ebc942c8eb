use Rattle.std.proofs.Common.{arith, ap}
use Rattle.machine_standard_windows.proofs.TextLines.{is_in_line, width_is, passed_front, passed_all}
use Rattle.machine_standard_windows.proofs.lines.width.Goals as goal

pub returns-else-text-begin-ne10-clause-same : goal.returns-else-text-begin-ne10-clause-same
returns-else-text-begin-ne10-clause-same c = width_is c.args.text.now c.loop-begin.begin _ c.loop-begin.invariant.count
    (passed_all is_in_line c.args.text.now c.loop-begin.begin c.loop-begin-test.true
    (ap is_in_line c.if-text-begin-ne10.false) c.loop-begin.invariant.line)

pub returns-after-loop-begin-clause-same : goal.returns-after-loop-begin-clause-same
returns-after-loop-begin-clause-same c = width_is c.args.text.now c.loop-begin.begin _ c.loop-begin.invariant.count
    (passed_front is_in_line c.args.text.now c.loop-begin.begin (omega (arith, c.loop-begin-test.false))
    c.loop-begin.invariant.line)
