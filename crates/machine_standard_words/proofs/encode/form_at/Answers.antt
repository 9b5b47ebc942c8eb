use Rattle.std.proofs.Common.{sym, ap, ◌∙◌}
use Rattle.zcore_standard.specs.Texts.{alphabets_of}
use Rattle.zcore_standard.specs.Words.{form_of}
use Rattle.machine_frames.specs.Contents.{memory_of}
use Rattle.machine_standard_words.proofs.Encoding.{form_read, form_unread}
use Rattle.machine_standard_words.proofs.encode.form_at.Goals as goal

pub returns-then-not-are_readable : goal.returns-then-not-are_readable
returns-then-not-are_readable c = form_unread c.args.store.now (alphabets_of c.args.loaded.now) c.memory-memory.result.now c.args.at c.args.count
    c.requires (c.memory-memory.ensures ∙ ap memory_of c.store.ensures)
    (sym c.are_readable.ensures ∙ c.if-not-are_readable.true)

pub returns : goal.returns
returns c = form_read c.args.store.now (alphabets_of c.args.loaded.now) c.memory-memory.result.now c.bytes_at.result.now c.form_of.result c.args.at
    c.args.count c.requires (c.memory-memory.ensures ∙ ap memory_of c.store.ensures)
    (sym c.are_readable.ensures ∙ c.if-not-are_readable.false) c.bytes_at.ensures
    (c.form_of.ensures ∙ ap (λ alphabets. form_of alphabets c.bytes_at.result.now) c.alphabets.ensures)
