use Rattle.std.proofs.Common.{arith}
use Rattle.machine_standard_opcodes.proofs.Returning.{catch_went}
use Rattle.machine_standard_opcodes.proofs.flow.catch.Goals as goal

pub returns : goal.returns
returns c = catch_went _ c.args.here c.args.after c.args.result_variable _ (omega arith) c.give_result.ensures
