use Rattle.std.proofs.Common.{◌<◌, ◌≤◌, arith}
use Rattle.machine_frames.proofs.Locals.{writes_stack, writes_local, writes_global}
use Rattle.machine_frames.proofs.variables.write_variable.Goals as goal

pub returns-in-0 : goal.returns-in-0
returns-in-0 c = rw (writes_stack c.args.variable c.args.word c.in-0.is) c.push.ensures

pub returns-in-1-to-15 : goal.returns-in-1-to-15
returns-in-1-to-15 c =
    let some : 0 < c.args.variable = omega arith in
    let low : c.args.variable < 16 = omega arith in
    rw (writes_local c.args.variable c.args.word some low) c.write_local.ensures

pub returns-in_default : goal.returns-in_default
returns-in_default c =
    let high : 16 ≤ c.args.variable = omega arith in
    rw (writes_global c.args.variable c.args.word high) c.write_global.ensures
