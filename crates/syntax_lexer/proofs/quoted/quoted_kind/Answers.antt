use Rattle.std.proofs.Common.{◌≡◌, Bool, true, false, sym, ◌∙◌}
use Rattle.syntax_lexer.proofs.Contents as contents
use Rattle.syntax_lexer.proofs.quoted.quoted_kind.Goals as goal

both : (r : Bool) → r ≡ true → r ≡ false → ⊥
both r p q = cc

pub returns-then-is_character : goal.returns-then-is_character
returns-then-is_character c = λ p. contents.lone_character c.args.content.now c.if-content-eq1.true
    (sym c.is_character.ensures ∙ c.if-is_character.true)

pub returns-else-is_character : goal.returns-else-is_character
returns-else-is_character c = contents.lone_none c.args.content.now c.if-content-eq1.true
    (sym c.is_character.ensures ∙ c.if-is_character.false)

pub returns-then-is_plain_word : goal.returns-then-is_plain_word
returns-then-is_plain_word c = λ p. contents.word_content c.args.content.now c.without_slashes-word.result.now
    c.if-content-eq1.false c.without_slashes-word.ensures (c.is_plain_word.ensures.0 c.if-is_plain_word.true)

pub returns-else-is_plain_word : goal.returns-else-is_plain_word
returns-else-is_plain_word c = contents.word_none c.args.content.now c.without_slashes-word.result.now
    c.if-content-eq1.false c.without_slashes-word.ensures
    (λ h. both c.is_plain_word.result (c.is_plain_word.ensures.1 h) c.if-is_plain_word.false)
