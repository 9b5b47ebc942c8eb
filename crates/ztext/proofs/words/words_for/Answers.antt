use Rattle.ztext.proofs.TextSizes.{no_characters, some_characters}
use Rattle.ztext.proofs.words.words_for.Goals as goal

pub returns-then-characters-eq0-clause-words : goal.returns-then-characters-eq0-clause-words
returns-then-characters-eq0-clause-words c text many =
    no_characters text c.args.characters many c.if-characters-eq0.true

pub returns-else-characters-eq0-clause-words : goal.returns-else-characters-eq0-clause-words
returns-else-characters-eq0-clause-words c text many =
    some_characters text c.args.characters many c.if-characters-eq0.false
