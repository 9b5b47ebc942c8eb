use Rattle.std.proofs.Common.{◌+◌}
use Rattle.screen.specs.Sequences.{fed, inserted, to_row}
use Rattle.screen.proofs.Adding.{added_three}
use Rattle.screen.proofs.screen.put_room.Goals as goal

pub returns : goal.returns
returns c = added_three _ _ _ _ (fed (c.args.rows + 1)) (to_row 1) (inserted c.args.rows) c.in_ok-put_fed.ensures
    c.in_ok-put_to_row.ensures c.in_ok-put_counted.ensures
