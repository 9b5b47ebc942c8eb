use Rattle.std.proofs.Common.{ap, sym, ◌∙◌, ◌+◌, ◌&&◌}
use Rattle.ztext.specs.Bytes.{word_at}
use Rattle.zcore.specs.Parts.{is_readable}
use Rattle.machine_frames.specs.Contents.{memory_of}
use Rattle.machine_frames.proofs.Bytes.{read_word_went, read_word_none, word_inside}
use Rattle.machine_frames.proofs.memory.read_word.Goals as goal

pub returns-then-not-is_readable_word : goal.returns-then-not-is_readable_word
returns-then-not-is_readable_word c =
    let memory = c.memory-memory.ensures ∙ ap memory_of c.store.ensures in
    read_word_none _ c.args.at c.requires.sound
    (ap (λ m. is_readable m c.args.at && is_readable m (c.args.at + 1)) (sym memory)
    ∙ sym c.is_readable_word.ensures ∙ c.if-not-is_readable_word.true)

pub bounds-memory-at-2 : goal.bounds-memory-at-2
bounds-memory-at-2 c = word_inside c.memory-memory.result.now c.args.at
    (sym c.is_readable_word.ensures ∙ c.if-not-is_readable_word.false)

pub returns : goal.returns
returns c =
    let memory = c.memory-memory.ensures ∙ ap memory_of c.store.ensures in
    read_word_went _ c.args.at _ c.requires.sound
    (ap (λ m. is_readable m c.args.at && is_readable m (c.args.at + 1)) (sym memory)
    ∙ sym c.is_readable_word.ensures ∙ c.if-not-is_readable_word.false) (ap (λ m. word_at m c.args.at) memory)
