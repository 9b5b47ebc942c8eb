use Rattle.checker_values.proofs.Walks.{one}
use Rattle.checker_statements.specs.Uses.{used_value}
use Rattle.checker_statements.proofs.simple_rules.use_value.Goals as goal

pub returns : goal.returns
returns c = rw c.used_action.ensures (one (used_value c.args.used) c.in-Ok.ensures)
