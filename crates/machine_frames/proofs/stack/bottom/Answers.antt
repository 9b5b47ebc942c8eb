use Rattle.std.proofs.Common.{◌+◌, ◌-◌, arith, slice_index}
use Rattle.machine_frames.specs.States.{frame_count, height_of}
use Rattle.machine_frames.proofs.Frames.{running_fits}
use Rattle.machine_frames.proofs.Storing.{base_there, count_there}
use Rattle.machine_frames.proofs.stack.bottom.Goals as goal

pub returns-clause-same : goal.returns-clause-same
returns-clause-same c =
    let f = slice_index c.args.store.now.store.cells in
    let base = base_there f c.running-record.result (frame_count f - 1) c.long.result c.running-record.ensures
    c.long.ensures in
    let count = count_there f (c.running-record.result + 4) (frame_count f - 1) c.cell.result
    (omega (arith, c.running-record.ensures)) c.cell.ensures in
    omega (arith, base, count)

pub returns-clause-within : goal.returns-clause-within
returns-clause-within c =
    let f = slice_index c.args.store.now.store.cells in
    let base = base_there f c.running-record.result (frame_count f - 1) c.long.result c.running-record.ensures
    c.long.ensures in
    let count = count_there f (c.running-record.result + 4) (frame_count f - 1) c.cell.result
    (omega (arith, c.running-record.ensures)) c.cell.ensures in
    let fits = running_fits f (frame_count f) (height_of f) c.requires.some c.requires.stacked in
    omega (arith, base, count, fits)
