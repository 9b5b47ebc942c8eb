use Rattle.std.proofs.Common.{ap, ◌∙◌, sym, arith, length}
use Rattle.machine_frames.specs.Contents.{memory_of}
use Rattle.machine_frames.proofs.Kept.{length-memory}
use Rattle.machine_standard_words.proofs.BufferTests.{slots_found, no_slots}
use Rattle.machine_standard_words.proofs.waiting.test_slots_or_none.Goals as goal

pub has_slots_or_none-requires-clause-within : goal.has_slots_or_none-requires-clause-within
has_slots_or_none-requires-clause-within c =
    let memory = c.memory.ensures ∙ ap memory_of c.store.ensures in
    omega (
      arith,
      ap length memory,
      length-memory c.args.store.now.store c.requires.sound,
      c.requires.headed.static_base,
    )

pub returns-then-has_slots_or_none : goal.returns-then-has_slots_or_none
returns-then-has_slots_or_none c = slots_found _ c.memory.result.now c.args.parse c.requires.sound
    (c.memory.ensures ∙ ap memory_of c.store.ensures) (sym c.if-has_slots_or_none.true ∙ c.has_slots_or_none.ensures)

pub returns-else-has_slots_or_none : goal.returns-else-has_slots_or_none
returns-else-has_slots_or_none c = no_slots _ c.memory.result.now c.args.parse c.requires.sound
    (c.memory.ensures ∙ ap memory_of c.store.ensures) (sym c.if-has_slots_or_none.false ∙ c.has_slots_or_none.ensures)
