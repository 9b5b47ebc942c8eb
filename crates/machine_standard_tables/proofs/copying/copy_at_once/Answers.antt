use Rattle.machine_standard_tables.proofs.Copies.{forwards_on_ok}
use Rattle.machine_standard_tables.proofs.copying.copy_at_once.Goals as goal

pub returns-else-first-second-clause-filled : goal.returns-else-first-second-clause-filled
returns-else-first-second-clause-filled c = forwards_on_ok _ c.args.store.now _ c.args.first c.args.second c.args.count
    c.requires.readable c.if-first-second.false c.copy_forwards.ensures.filled
