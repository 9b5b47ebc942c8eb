use Rattle.std.proofs.Common.{◌<◌, ◌∙◌, length, arith}
use Rattle.machine_frames.proofs.Lists.{wrote_three}
use Rattle.machine_frames.proofs.Leaving.{leave_went}
use Rattle.machine_frames.proofs.calls.leave.Goals as goal

pub returns : goal.returns
returns c =
    let some : 0 < length c.args.store.now.store.cells = omega (arith, c.requires.sound.size) in
    leave_went _ _ c.cell-frames.result c.running-record.result c.long-base.result c.requires.sound c.requires.called
    c.cell-frames.ensures c.running-record.ensures c.long-base.ensures
    (wrote_three _ _ _ _ _ _ some c.in_ok-put.ensures.cells c.in_ok-put_long.ensures.cells)
    (c.put_long.ensures.fixed ∙ c.put.ensures.fixed)
    (c.in_ok-put_long.ensures.beginning ∙ c.in_ok-put.ensures.beginning)
