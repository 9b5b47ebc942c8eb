use Rattle.syntax_statements.proofs.Shapes.{is_switch}
use Rattle.syntax_statements.proofs.kinds.switch_on.Goals as goal

pub returns : goal.returns
returns c = is_switch c.args.position c.args.value c.args.cases
