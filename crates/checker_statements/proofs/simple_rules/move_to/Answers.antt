use Rattle.meaning.specs.Resolved as values
use Rattle.checker_values.proofs.Walks.{two, after}
use Rattle.checker_statements.proofs.MadeActions.{made_move}
use Rattle.checker_statements.proofs.simple_rules.move_to.Goals as goal

pub returns : goal.returns
returns c around = rw (made_move c.in-Ok.object c.in-Ok-boxed_expression.parent)
    (after _ _ _ _ _ c.move_temporaries.ensures (two values.move_to
    (rw c.deref.ensures at c.in-Ok.ensures) (rw c.deref-2.ensures at c.in-Ok-boxed_expression.ensures)))
