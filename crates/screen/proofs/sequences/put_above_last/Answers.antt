use Rattle.screen.specs.Sequences.{counted, to_row}
use Rattle.screen.proofs.Adding.{then_more}
use Rattle.screen.proofs.sequences.put_above_last.Goals as goal

pub returns : goal.returns
returns c = then_more _ _ _ (to_row 255) (counted c.args.rows 65) c.in_ok-put_to_row.ensures c.in_ok-put_counted.ensures
