use Rattle.std.proofs.Common.{◌≡◌, Bool, true, false}
use Rattle.syntax_lexer.proofs.SignTokens as signs
use Rattle.syntax_lexer.proofs.signs.sign_at.Goals as goal

both : (r : Bool) → r ≡ true → r ≡ false → ⊥
both r p q = cc

pub returns-then-is_long_arrow : goal.returns-then-is_long_arrow
returns-then-is_long_arrow c = signs.three_found c.args.bytes.now c.byte_at-first.result c.byte_at-second.result
    c.byte_at.result c.byte_at-first.ensures.value c.byte_at-second.ensures.value c.byte_at.ensures.value
    (c.is_long_arrow.ensures.0 c.if-is_long_arrow.true)

pub returns-in-Some : goal.returns-in-Some
returns-in-Some c = signs.two_found c.args.bytes.now c.byte_at-first.result c.byte_at-second.result c.byte_at.result
    c.byte_at-first.ensures.value c.byte_at-second.ensures.value c.byte_at.ensures.value
    (λ e. both c.is_long_arrow.result (c.is_long_arrow.ensures.1 e) c.if-is_long_arrow.false) c.in-Some.sign
    c.in-Some.ensures

pub returns-in-None : goal.returns-in-None
returns-in-None c = signs.one_found c.args.bytes.now c.byte_at-first.result c.byte_at-second.result c.byte_at.result
    c.byte_at-first.ensures.value c.byte_at-second.ensures.value c.byte_at.ensures.value
    (λ e. both c.is_long_arrow.result (c.is_long_arrow.ensures.1 e) c.if-is_long_arrow.false) c.in-None.ensures
    c.sign_of_one.result c.sign_of_one.ensures
