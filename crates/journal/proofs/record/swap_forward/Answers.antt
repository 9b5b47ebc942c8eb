use Rattle.std.proofs.Common.{refl}
use Rattle.journal.proofs.Swaps.{back-forward}
use Rattle.journal.proofs.record.swap_forward.Goals as goal

pub returns-clause-inverse : goal.returns-clause-inverse
returns-clause-inverse g c =
    let e = back-forward _ (g.C.Cells.bounds c.args.store.now) (g.C.Cells.cells c.args.store.now) c.args.turn.now
    refl c.requires in cc
