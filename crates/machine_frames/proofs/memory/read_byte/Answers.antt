use Rattle.std.proofs.Common.{ap, sym, ◌∙◌, slice_index}
use Rattle.zcore.specs.Parts.{is_readable}
use Rattle.machine_frames.specs.Contents.{memory_of}
use Rattle.machine_frames.proofs.Bytes.{read_byte_went, read_byte_none}
use Rattle.machine_frames.proofs.memory.read_byte.Goals as goal

pub returns-then-not-is_readable : goal.returns-then-not-is_readable
returns-then-not-is_readable c =
    let memory = c.memory-memory.ensures ∙ ap memory_of c.store.ensures in
    read_byte_none _ c.args.at c.requires
    (ap (λ m. is_readable m c.args.at) (sym memory) ∙ sym c.is_readable.ensures ∙ c.if-not-is_readable.true)

pub returns : goal.returns
returns c =
    let memory = c.memory-memory.ensures ∙ ap memory_of c.store.ensures in
    read_byte_went _ c.args.at _ c.requires
    (ap (λ m. is_readable m c.args.at) (sym memory) ∙ sym c.is_readable.ensures ∙ c.if-not-is_readable.false)
    (ap (λ m. slice_index m c.args.at) memory)
