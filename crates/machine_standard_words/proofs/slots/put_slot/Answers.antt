use Rattle.std.proofs.Common.{◌++◌, take, ap, ◌∙◌, arith}
use Rattle.zcore_standard.specs.Texts.{alphabets_of}
use Rattle.tables.specs.Placed.{word_of}
use Rattle.machine_standard_words.proofs.Filling.{slot_left}
use Rattle.machine_standard_words.proofs.slots.put_slot.Goals as goal

pub returns-then-search-ne0 : goal.returns-then-search-ne0
returns-then-search-ne0 c = c.put_four.ensures ∙ ap (λ l. take c.args.place c.args.bytes.now ++ l)
    (slot_left (alphabets_of c.args.loaded.now) c.args.memory.now c.args.search.dictionary c.args.search.flag c.args.at c.entry_with_form-entry.result
    (word_of c.args.word) (omega (arith, c.requires.slot)) c.entry_with_form-entry.ensures c.if-entry-eq0.true
    c.if-search-ne0.true)
