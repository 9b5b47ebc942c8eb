use Rattle.syntax_lexer.proofs.Contents as contents
use Rattle.syntax_lexer.proofs.quoted.is_plain_word.Goals as goal

pub returns-then-is_empty : goal.returns-then-is_empty
returns-then-is_empty c = contents.empty_decides c.args.word.now c.is_empty.result c.is_empty.ensures
    c.if-is_empty.true

pub returns-then-has_two_slashes : goal.returns-then-has_two_slashes
returns-then-has_two_slashes c = contents.slashes_decide c.args.word.now
    (c.has_two_slashes.ensures.some c.if-has_two_slashes.true)

pub returns : goal.returns
returns c = contents.plain_decides c.args.word.now c.run_length.result c.is_empty.result c.run_length.ensures.value
    c.is_empty.ensures c.if-is_empty.false (c.has_two_slashes.ensures.none c.if-has_two_slashes.false)
