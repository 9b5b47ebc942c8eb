use Rattle.machine_frames.proofs.Entering.{few_calls, many_calls}
use Rattle.machine_frames.proofs.calls.test_calls.Goals as goal

pub returns-then-cell-ge-RECORD_COUNT-clause-went : goal.returns-then-cell-ge-RECORD_COUNT-clause-went
returns-then-cell-ge-RECORD_COUNT-clause-went c = many_calls _ c.cell.result c.requires c.cell.ensures
    c.if-cell-ge-RECORD_COUNT.true

pub returns-clause-went : goal.returns-clause-went
returns-clause-went c = few_calls _ c.cell.result c.requires c.cell.ensures c.if-cell-ge-RECORD_COUNT.false
