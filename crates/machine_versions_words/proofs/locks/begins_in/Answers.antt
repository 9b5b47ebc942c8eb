use Rattle.machine_versions_words.proofs.Locking.{begins_at, begins_past}
use Rattle.machine_versions_words.proofs.locks.begins_in.Goals as goal

pub returns-then-place-word : goal.returns-then-place-word
returns-then-place-word c =
    begins_past c.args.version c.args.alphabet c.args.word.now c.args.place c.if-place-word.true

pub returns : goal.returns
returns c = begins_at c.args.version c.args.alphabet c.alphabet_of.result c.args.word.now c.args.place
    c.if-place-word.false c.alphabet_of.ensures.alphabet
