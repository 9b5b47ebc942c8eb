use Rattle.checker_values.proofs.Walks.{kept_walked}
use Rattle.checker_values.proofs.expression_rules.boxed_name.Goals as goal

pub returns : goal.returns
returns c = kept_walked c.in_box.result _ c.in_box.ensures c.named_value.ensures
