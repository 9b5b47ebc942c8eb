use Rattle.screen.specs.Sequences.{above_last, deleted, to_row}
use Rattle.screen.proofs.Adding.{added_three}
use Rattle.screen.proofs.screen.Screen.put_removed.Goals as goal

pub returns-clause-added : goal.returns-clause-added
returns-clause-added c = added_three _ _ _ _ (to_row 1) (deleted c.args.self.upper)
    (above_last c.args.self.upper) c.in_ok-put_to_row.ensures c.in_ok-put_counted.ensures
    c.in_ok-put_above_last.ensures
