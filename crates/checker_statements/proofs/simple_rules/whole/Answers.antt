use Rattle.meaning.specs.Views.{value_of}
use Rattle.checker_values.proofs.Walks.{before}
use Rattle.checker_statements.proofs.simple_rules.whole.Goals as goal

pub returns : goal.returns
returns c = before value_of c.expression.result _ _ _ _ _ _ c.temporaries.ensures
    (rw c.deref.ensures at c.expression.ensures)
