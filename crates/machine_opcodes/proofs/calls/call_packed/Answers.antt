use Rattle.machine_opcodes.proofs.Targets.{unpacked_is, calls_nothing, calls_routine}
use Rattle.machine_opcodes.proofs.calls.call_packed.Goals as goal

pub returns-then-packed-eq0 : goal.returns-then-packed-eq0
returns-then-packed-eq0 c = calls_nothing c.args.here c.args.after c.args.packed c.args.result_variable
    c.args.arguments.now _ _ _ c.if-packed-eq0.true c.give_result.ensures

pub returns : goal.returns
returns c =
    calls_routine c.args.here c.args.after c.args.packed c.unpacked-routine.result c.args.result_variable
    c.args.arguments.now _ _ _ c.if-packed-eq0.false
    (unpacked_is c.args.header.now _ _ _ c.requires.store.headed c.unpacked-routine.ensures.same) c.call.ensures
