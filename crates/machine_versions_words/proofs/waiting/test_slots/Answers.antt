use Rattle.std.proofs.Common.{ap, ◌∙◌, sym, arith, length}
use Rattle.machine_frames.specs.Contents.{memory_of}
use Rattle.machine_frames.proofs.Kept.{length-memory}
use Rattle.machine_versions_words.proofs.Buffers.{slots_found, no_slots}
use Rattle.machine_versions_words.proofs.waiting.test_slots.Goals as goal

pub has_slots-requires-clause-within : goal.has_slots-requires-clause-within
has_slots-requires-clause-within c =
    let memory = c.memory.ensures ∙ ap memory_of c.store.ensures in
    omega (
      arith,
      ap length memory,
      length-memory c.args.store.now.store c.requires.sound,
      c.requires.headed.static_base,
    )

pub returns-then-has_slots : goal.returns-then-has_slots
returns-then-has_slots c = slots_found _ c.memory.result.now c.args.parse c.requires.sound
    (c.memory.ensures ∙ ap memory_of c.store.ensures) (sym c.if-has_slots.true ∙ c.has_slots.ensures)

pub returns-else-has_slots : goal.returns-else-has_slots
returns-else-has_slots c = no_slots _ c.memory.result.now c.args.parse c.requires.sound
    (c.memory.ensures ∙ ap memory_of c.store.ensures) (sym c.if-has_slots.false ∙ c.has_slots.ensures)
