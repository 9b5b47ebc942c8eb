use Rattle.std.proofs.Common.{Ok, Err}
use Rattle.machine_standard_windows.specs.TurnState.{place}
use Rattle.machine_standard_opcodes.proofs.Keeping.{random_went}
use Rattle.machine_standard_opcodes.proofs.dice.random.Goals as goal

pub returns-in-Ok-clause-went : goal.returns-in-Ok-clause-went
returns-in-Ok-clause-went c = random_went (Ok c.in-Ok.next) (place c.args.turn.now c.args.here) c.args.after
    c.args.result_variable c.args.range c.rolled-number.result c.rolled-number.ensures c.in-Ok.ensures

pub returns-in-Err-clause-went : goal.returns-in-Err-clause-went
returns-in-Err-clause-went c = random_went (Err c.in-Err.end) (place c.args.turn.now c.args.here) c.args.after
    c.args.result_variable c.args.range c.rolled-number.result c.rolled-number.ensures c.in-Err.ensures
