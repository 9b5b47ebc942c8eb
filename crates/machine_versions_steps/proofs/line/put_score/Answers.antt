use Rattle.machine_frames.specs.Contents.{memory_of}
use Rattle.machine_versions_steps.proofs.Columns.{on_ok, score_is}
use Rattle.machine_versions_steps.proofs.line.put_score.Goals as goal

pub returns : goal.returns
returns c = on_ok c.put_number-2.result
    (λ e. score_is (memory_of c.args.store.now.store) c.args.text.now.items _ _ _ _ _ c.global.result c.global-2.result
    c.in_ok-put.ensures c.in_ok-put_number.ensures c.global.ensures c.in_ok-fill.ensures c.in_ok-put-2.ensures
    e c.global-2.ensures)
    c.put_number-2.ensures
