use Rattle.std.proofs.Common.{arith}
use Rattle.machine_frames.proofs.Kept.{length-memory}
use Rattle.machine_lines.proofs.Filling.{counted_filled}
use Rattle.machine_lines.proofs.bytes.fill_counted.Goals as goal

pub overflow_add-at : goal.overflow_add-at
overflow_add-at c = omega (
  arith,
  length-memory c.args.store.now.store c.requires.sound,
  c.requires.sound.short,
  c.requires.room,
)

pub returns-clause-filled : goal.returns-clause-filled
returns-clause-filled c = counted_filled c.args.store.now c.fill.new.store c.fill-2.new.store c.args.at c.args.count
    c.args.bytes.now c.fill-2.result c.in_ok-fill.ensures.filled c.fill-2.ensures.filled
