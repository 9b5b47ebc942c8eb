use Rattle.std.proofs.Common.{sym, ◌∙◌}
use Rattle.syntax_lexer.proofs.QuotedTokens as quoted
use Rattle.syntax_lexer.proofs.quoted.text_token.Goals as goal

pub returns-then-byte_at-ne34 : goal.returns-then-byte_at-ne34
returns-then-byte_at-ne34 c = quoted.text_bad c.args.bytes.now c.from-rest.result.now c.run_length-count.result
    c.requires c.from-rest.ensures c.run_length-count.ensures.value
    (λ e. c.if-byte_at-ne34.true (c.byte_at.ensures.value ∙ e))

pub returns : goal.returns
returns c = quoted.text_found c.args.bytes.now c.from-rest.result.now c.front.result.now c.run_length-count.result
    c.requires c.from-rest.ensures c.run_length-count.ensures.value c.front.ensures
    (sym c.byte_at.ensures.value ∙ c.if-byte_at-ne34.false)
