use Rattle.std.proofs.Common.{arith, sym, ◌∙◌}
use Rattle.syntax_lexer.proofs.NumberTokens as numbers
use Rattle.syntax_lexer.proofs.numbers.number_token.Goals as goal

pub from-rest-requires : goal.from-rest-requires
from-rest-requires c =
    let at = numbers.stands c.args.bytes.now c.base-base.result c.base-base.ensures in
    omega (arith, at.within, c.prefix_length-start.ensures)

pub returns-then-count-eq0 : goal.returns-then-count-eq0
returns-then-count-eq0 c = numbers.no_digits c.args.bytes.now c.base-base.result c.base-base.ensures c.requires
    c.prefix_length-start.result c.run_length-count.result c.from-rest.result.now c.prefix_length-start.ensures
    c.from-rest.ensures c.run_length-count.ensures.value c.if-count-eq0.true

pub returns-then-is_name_byte : goal.returns-then-is_name_byte
returns-then-is_name_byte c = numbers.goes_on c.args.bytes.now c.base-base.result c.base-base.ensures c.requires
    c.prefix_length-start.result c.run_length-count.result c.from-rest.result.now c.prefix_length-start.ensures
    c.from-rest.ensures c.run_length-count.ensures.value c.byte_at.result c.byte_at.ensures.value
    c.if-count-eq0.false (sym c.is_name_byte.ensures ∙ c.if-is_name_byte.true)

pub returns-in-Some : goal.returns-in-Some
returns-in-Some c = numbers.number_found c.args.bytes.now c.base-base.result c.base-base.ensures c.requires
    c.prefix_length-start.result c.run_length-count.result c.from-rest.result.now c.prefix_length-start.ensures
    c.from-rest.ensures c.run_length-count.ensures.value c.front.result.now c.in-Some.number c.byte_at.result
    c.front.ensures c.in-Some.ensures.0 c.in-Some.ensures.1 c.byte_at.ensures.value c.if-count-eq0.false
    (sym c.is_name_byte.ensures ∙ c.if-is_name_byte.false)

pub returns-in-None : goal.returns-in-None
returns-in-None c = numbers.too_great c.args.bytes.now c.base-base.result c.base-base.ensures c.requires
    c.prefix_length-start.result c.run_length-count.result c.from-rest.result.now c.prefix_length-start.ensures
    c.from-rest.ensures c.run_length-count.ensures.value c.front.result.now c.front.ensures c.if-count-eq0.false
    c.in-None.ensures
