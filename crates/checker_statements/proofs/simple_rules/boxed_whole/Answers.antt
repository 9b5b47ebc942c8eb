use Rattle.meaning.specs.Views.{boxed_value}
use Rattle.checker_values.proofs.Walks.{before}
use Rattle.checker_statements.proofs.simple_rules.boxed_whole.Goals as goal

pub returns : goal.returns
returns c = before boxed_value c.boxed_expression.result _ _ _ _ _ _ c.temporaries.ensures
    (rw c.deref.ensures at c.boxed_expression.ensures)
