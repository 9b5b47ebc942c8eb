use Rattle.std.proofs.Common.{arith}
use Rattle.machine_frames.proofs.Kept.{length-memory}
use Rattle.machine_lines.proofs.Lines.{base_kept}
use Rattle.machine_versions_words.proofs.Typing.{ended_filled}
use Rattle.machine_versions_words.proofs.typed.fill_ended.Goals as goal

pub fill-requires-2-clause-room : goal.fill-requires-2-clause-room
fill-requires-2-clause-room c =
    let base = base_kept c.args.store.now c.fill.new.store c.in_ok-fill.ensures.filled.goes_on in
    omega (arith, base, c.requires.room)

pub overflow_add-at : goal.overflow_add-at
overflow_add-at c = omega (
  arith,
  length-memory c.args.store.now.store c.requires.sound,
  c.requires.sound.short,
  c.requires.room,
)

pub returns-clause-filled : goal.returns-clause-filled
returns-clause-filled c = ended_filled c.args.store.now c.fill.new.store c.fill-2.new.store c.args.at
    c.args.letters.now c.fill-2.result c.in_ok-fill.ensures.filled c.fill-2.ensures.filled
