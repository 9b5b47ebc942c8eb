use Rattle.std.proofs.Common.{ap, ◌∙◌, sym, arith, length}
use Rattle.machine_frames.specs.Contents.{memory_of}
use Rattle.machine_frames.proofs.Kept.{length-memory}
use Rattle.machine_versions_words.proofs.Buffers.{room_found, no_room}
use Rattle.machine_versions_words.proofs.waiting.test_room.Goals as goal

pub has_room-requires-clause-within : goal.has_room-requires-clause-within
has_room-requires-clause-within c =
    let memory = c.memory.ensures ∙ ap memory_of c.store.ensures in
    omega (
      arith,
      ap length memory,
      length-memory c.args.store.now.store c.requires.sound,
      c.requires.headed.static_base,
    )

pub returns-then-has_room : goal.returns-then-has_room
returns-then-has_room c = room_found _ c.memory.result.now c.args.text c.requires.sound
    (c.memory.ensures ∙ ap memory_of c.store.ensures) (sym c.if-has_room.true ∙ c.has_room.ensures)

pub returns-else-has_room : goal.returns-else-has_room
returns-else-has_room c = no_room _ c.memory.result.now c.args.text c.requires.sound
    (c.memory.ensures ∙ ap memory_of c.store.ensures) (sym c.if-has_room.false ∙ c.has_room.ensures)
