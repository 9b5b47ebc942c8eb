use Rattle.checker_values.proofs.Walks.{made_number, kept_value}
use Rattle.checker_values.proofs.expression_rules.constant.Goals as goal

pub returns : goal.returns
returns c = kept_value c.in_box.result _ c.in_box.ensures (made_number c.args.number)
