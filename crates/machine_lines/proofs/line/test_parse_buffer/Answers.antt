use Rattle.std.proofs.Common.{ap, ◌∙◌, sym, arith, length}
use Rattle.machine_frames.specs.Contents.{memory_of}
use Rattle.machine_frames.proofs.Kept.{length-memory}
use Rattle.machine_lines.proofs.Buffers.{parse_buffer_tested, parse_buffer_refused}
use Rattle.machine_lines.proofs.line.test_parse_buffer.Goals as goal

pub is_parse_buffer-requires-clause-within : goal.is_parse_buffer-requires-clause-within
is_parse_buffer-requires-clause-within c =
    let memory = c.memory.ensures ∙ ap memory_of c.store.ensures in
    omega (
      arith,
      ap length memory,
      length-memory c.args.store.now.store c.requires.sound,
      c.requires.headed.static_base,
    )

pub returns-then-is_parse_buffer : goal.returns-then-is_parse_buffer
returns-then-is_parse_buffer c = parse_buffer_tested _ c.memory.result.now c.args.buffer c.requires.sound
    (c.memory.ensures ∙ ap memory_of c.store.ensures) (sym c.if-is_parse_buffer.true ∙ c.is_parse_buffer.ensures)

pub returns-else-is_parse_buffer : goal.returns-else-is_parse_buffer
returns-else-is_parse_buffer c = parse_buffer_refused _ c.memory.result.now c.args.buffer c.requires.sound
    (c.memory.ensures ∙ ap memory_of c.store.ensures) (sym c.if-is_parse_buffer.false ∙ c.is_parse_buffer.ensures)
