use Rattle.std.specs.Prelude.{map}
use Rattle.meaning.specs.Views.{printed_of}
use Rattle.code_items.proofs.Actions.{print_return_more, on_ok}
use Rattle.code_items.proofs.statement.put_print_return.Goals as goal

pub returns : goal.returns
returns c = on_ok c.put_prints.result
    (λ w x. print_return_more _ _ _ x (map printed_of c.args.items.now) c.in-Ok.ensures w) c.put_prints.ensures
