use Rattle.std.proofs.Common.{ap, ◌∙◌, sym, arith, length}
use Rattle.machine_frames.specs.Contents.{memory_of}
use Rattle.machine_frames.proofs.Kept.{length-memory}
use Rattle.machine_lines.proofs.Lines.{buffer_tested, buffer_refused}
use Rattle.machine_lines.proofs.line.test_text_buffer.Goals as goal

pub is_text_buffer-requires-clause-within : goal.is_text_buffer-requires-clause-within
is_text_buffer-requires-clause-within c =
    let memory = c.memory.ensures ∙ ap memory_of c.store.ensures in
    omega (
      arith,
      ap length memory,
      length-memory c.args.store.now.store c.requires.sound,
      c.requires.headed.static_base,
    )

pub returns-then-is_text_buffer : goal.returns-then-is_text_buffer
returns-then-is_text_buffer c = buffer_tested _ c.memory.result.now c.args.buffer c.requires.sound
    (c.memory.ensures ∙ ap memory_of c.store.ensures) (sym c.if-is_text_buffer.true ∙ c.is_text_buffer.ensures)

pub returns-else-is_text_buffer : goal.returns-else-is_text_buffer
returns-else-is_text_buffer c = buffer_refused _ c.memory.result.now c.args.buffer c.requires.sound
    (c.memory.ensures ∙ ap memory_of c.store.ensures) (sym c.if-is_text_buffer.false ∙ c.is_text_buffer.ensures)
