use Rattle.std.proofs.Common.{sym, ◌∙◌}
use Rattle.machine_standard_opcodes.proofs.WordTests.{words_tested, words_refused}
use Rattle.machine_standard_opcodes.proofs.screen.test_words.Goals as goal

pub returns-then-not-has_words-clause-went : goal.returns-then-not-has_words-clause-went
returns-then-not-has_words-clause-went c = words_refused c.args.header.now _ c.args.at c.requires.store
    (sym c.has_words.ensures.same ∙ c.if-not-has_words.true)

pub returns-clause-went : goal.returns-clause-went
returns-clause-went c = words_tested c.args.header.now _ c.args.at c.requires.store
    (sym c.has_words.ensures.same ∙ c.if-not-has_words.false)

pub returns-clause-within : goal.returns-clause-within
returns-clause-within c = c.has_words.ensures.within c.if-not-has_words.false
