use Rattle.std.proofs.Common.{◌∷◌, [], replicate}
use Rattle.screen.specs.Sequences.{to_row}
use Rattle.screen.specs.Upper.{fitting}
use Rattle.screen.proofs.Adding.{added_four}
use Rattle.screen.proofs.upper.put_row.Goals as goal

pub returns : goal.returns
returns c = added_four _ _ _ _ _ (to_row c.args.row) (replicate c.args.columns 32) (13 ∷ [])
    (fitting c.args.columns c.args.line.now) c.in_ok-put_to_row.ensures c.in_ok-put_blanks.ensures
    c.in_ok-push.ensures.items c.in_ok-put_fitting.ensures
