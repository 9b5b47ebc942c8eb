use Rattle.std.proofs.Common.{arith, refl}
use Rattle.machine_frames.proofs.Bytes.{byte_within}
use Rattle.machine_frames.proofs.Kept.{length-memory}
use Rattle.machine_lines.proofs.Filling.{fill_more}
use Rattle.machine_lines.proofs.bytes.fill.Goals as goal

pub put-requires-clause-within : goal.put-requires-clause-within
put-requires-clause-within c = byte_within _ _ (omega (arith, c.type_inv.bytes c.loop-i.i))

pub loop-i-preserved : goal.loop-i-preserved
loop-i-preserved c =
    fill_more c.args.store.now c.loop-i.store c.put.new.self c.args.bytes.now c.args.at c.loop-i.i _
    c.loop-i.invariant refl c.loop-i-test.true c.requires.after_header c.requires.room c.in_ok-put.ensures.cells
    c.put.ensures.fixed c.in_ok-put.ensures.beginning

pub overflow_add-at : goal.overflow_add-at
overflow_add-at c = omega (
  arith,
  length-memory c.args.store.now.store c.requires.sound,
  c.requires.sound.short,
  c.requires.room,
)

pub overflow_add-at-in-loop-i : goal.overflow_add-at-in-loop-i
overflow_add-at-in-loop-i c = omega (
  arith,
  length-memory c.args.store.now.store c.requires.sound,
  c.requires.sound.short,
  c.requires.room,
)
