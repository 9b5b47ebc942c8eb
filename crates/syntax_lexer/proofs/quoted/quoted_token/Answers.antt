use Rattle.std.proofs.Common.{sym, ◌∙◌}
use Rattle.syntax_lexer.specs.Token.{lexeme_of}
use Rattle.syntax_lexer.proofs.QuotedTokens as quoted
use Rattle.syntax_lexer.proofs.quoted.quoted_token.Goals as goal

pub returns-then-byte_at-ne39 : goal.returns-then-byte_at-ne39
returns-then-byte_at-ne39 c = quoted.quoted_open c.args.bytes.now c.from-rest.result.now c.run_length-count.result
    c.requires c.from-rest.ensures c.run_length-count.ensures.value
    (λ e. c.if-byte_at-ne39.true (c.byte_at.ensures.value ∙ e))

pub returns-in-Some : goal.returns-in-Some
returns-in-Some c = λ p.
    let content = c.in-Some.ensures p in (
      quoted.quoted_found c.args.bytes.now c.from-rest.result.now c.front.result.now c.run_length-count.result
          (lexeme_of c.in-Some.kind p) c.requires c.from-rest.ensures c.run_length-count.ensures.value
          c.front.ensures (sym c.byte_at.ensures.value ∙ c.if-byte_at-ne39.false) content,
      quoted.content_allowed (lexeme_of c.in-Some.kind p) c.front.result.now _ content,
    )

pub returns-in-None : goal.returns-in-None
returns-in-None c = quoted.quoted_bad c.args.bytes.now c.from-rest.result.now c.front.result.now
    c.run_length-count.result c.requires c.from-rest.ensures c.run_length-count.ensures.value c.front.ensures
    c.in-None.ensures
