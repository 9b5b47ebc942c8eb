use Rattle.machine_frames.specs.Contents.{memory_of}
use Rattle.machine_versions_steps.proofs.Columns.{on_ok, time_is}
use Rattle.machine_versions_steps.proofs.line.put_time.Goals as goal

pub returns : goal.returns
returns c = on_ok c.put_minutes.result
    (λ d. time_is (memory_of c.args.store.now.store) c.args.text.now.items _ _ _ _ c.global.result c.global-2.result
    c.in_ok-put.ensures c.in_ok-put_number.ensures c.global.ensures c.in_ok-put-2.ensures d c.global-2.ensures)
    c.put_minutes.ensures
