use Rattle.screen.specs.Sequences.{upper_begun, upper_ended}
use Rattle.screen.specs.Upper.{rows_from}
use Rattle.screen.proofs.Adding.{added_three}
use Rattle.screen.proofs.upper.put_upper.Goals as goal

pub returns : goal.returns
returns c = added_three _ _ _ _ upper_begun (rows_from c.args.columns 1 c.args.count c.args.text.now) upper_ended
    c.in_ok-extend_from_slice.ensures.items c.in_ok-put_rows.ensures c.in_ok-extend_from_slice-2.ensures.items
