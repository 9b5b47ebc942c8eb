use Rattle.std.proofs.Common.{arith}
use Rattle.std.proofs.lemmas.Bool.{le-leb, lt-leb}
use Rattle.zcore.specs.Execution.{give_result, modulo}
use Rattle.machine_opcodes.proofs.Operating.{test_passed, test_failed, result_as}
use Rattle.machine_opcodes.proofs.arithmetic.modulo.Goals as goal

pub returns-in_default : goal.returns-in_default
unfolding modulo
returns-in_default c = test_failed _ _ _ _ c.requires.sound (lt-leb 1 c.args.y (omega (arith, c.in_default.ensures)))

pub returns : goal.returns
unfolding modulo give_result
returns c = test_passed _ _ _ (le-leb 1 c.args.y (omega (arith, c.in-Some.ensures.0)))
    (result_as c.args.here c.args.after c.args.result_variable _ _ c.in-Some.ensures.1 c.give_result.ensures)
