use Rattle.std.proofs.Common.{arith}
use Rattle.machine_versions.proofs.Calling.{calls_nothing, calls_routine, routine_near}
use Rattle.machine_versions.proofs.calls.call_older.Goals as goal

pub returns-then-packed-eq0 : goal.returns-then-packed-eq0
returns-then-packed-eq0 c = calls_nothing c.args.version c.args.here c.args.after c.args.packed c.args.result_variable
    c.args.arguments.now _ _ _ c.if-packed-eq0.true c.give_result.ensures

pub call_at-requires-clause-within : goal.call_at-requires-clause-within
call_at-requires-clause-within c = routine_near c.args.version c.args.packed c.routine_at-routine.result
    c.requires.early (omega arith) c.requires.offset c.routine_at-routine.ensures

pub returns : goal.returns
returns c =
    calls_routine c.args.version c.args.here c.args.after c.args.packed c.routine_at-routine.result c.args.result_variable
    c.args.arguments.now _ _ _ c.if-packed-eq0.false c.routine_at-routine.ensures c.call_at.ensures
