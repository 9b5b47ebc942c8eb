use Rattle.checker_statements.proofs.MadeActions.{made_return_value, made_remove, made_effect}
use Rattle.checker_statements.proofs.simple_rules.used_action.Goals as goal

pub returns-in-Return : goal.returns-in-Return
returns-in-Return c = rw c.in-Return.is (made_return_value c.args.value)

pub returns-in-Remove : goal.returns-in-Remove
returns-in-Remove c = rw c.in-Remove.is (made_remove c.args.value)

pub returns-in-Effect : goal.returns-in-Effect
returns-in-Effect c = rw c.in-Effect.is (made_effect c.args.value)
