use Rattle.checker_statements.proofs.MadeStatements.{made_if_then, made_while_do, made_each_in, made_each_where}
use Rattle.checker_statements.proofs.guards.guarded_action.Goals as goal

pub returns-in-If : goal.returns-in-If
returns-in-If c = rw c.in-If.is (made_if_then c.args.value c.args.body)

pub returns-in-While : goal.returns-in-While
returns-in-While c = rw c.in-While.is (made_while_do c.args.value c.args.body)

pub returns-in-In : goal.returns-in-In
returns-in-In c = rw c.in-In.is (made_each_in c.in-In.variable c.args.value c.args.body)

pub returns-in-Where : goal.returns-in-Where
returns-in-Where c = rw c.in-Where.is (made_each_where c.in-Where.variable c.args.value c.args.body)
