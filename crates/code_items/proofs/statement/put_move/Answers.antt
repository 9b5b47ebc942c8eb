use Rattle.meaning.specs.Views.{value_of}
use Rattle.code_items.proofs.Actions.{move_more, on_ok}
use Rattle.code_items.proofs.statement.put_move.Goals as goal

pub returns : goal.returns
returns c = on_ok c.put_operand.result (λ w x. move_more _ _ _ _ _ (value_of c.args.object.now)
    (value_of c.args.into.now) c.left_of-left.ensures c.alone-right.ensures c.in-Ok.ensures w) c.put_operand.ensures
