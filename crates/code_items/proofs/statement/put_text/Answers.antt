use Rattle.code_items.proofs.Actions.{text_more, on_ok}
use Rattle.code_items.proofs.statement.put_text.Goals as goal

pub returns : goal.returns
returns c = on_ok c.put.result (λ w x. text_more _ _ _ x c.args.text.now c.in-Ok.ensures w) c.put.ensures
