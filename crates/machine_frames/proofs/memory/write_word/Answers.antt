use Rattle.std.proofs.Common.{sym, ◌∙◌}
use Rattle.machine_frames.specs.Contents.{memory_of}
use Rattle.machine_frames.proofs.Bytes.{write_word_went, write_word_none, word_writable}
use Rattle.machine_frames.proofs.memory.write_word.Goals as goal

pub returns-then-not-is_writable_word : goal.returns-then-not-is_writable_word
returns-then-not-is_writable_word c =
    let same = word_writable (memory_of c.args.store.now.store) c.args.at _ c.requires.store.headed.static_base in
    write_word_none _ c.args.at c.args.word c.requires.store.sound
    (sym same ∙ sym c.is_writable_word.ensures ∙ c.if-not-is_writable_word.true)

pub returns : goal.returns
returns c =
    let same = word_writable (memory_of c.args.store.now.store) c.args.at _ c.requires.store.headed.static_base in
    write_word_went _ _ c.put.new.self.store.cells c.args.at c.args.word c.requires.store.sound
    (sym same ∙ sym c.is_writable_word.ensures ∙ c.if-not-is_writable_word.false)
    c.in_ok-put.ensures.cells c.in_ok-put-2.ensures.cells (c.put-2.ensures.fixed ∙ c.put.ensures.fixed)
    (c.in_ok-put-2.ensures.beginning ∙ c.in_ok-put.ensures.beginning)
