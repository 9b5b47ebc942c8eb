use Rattle.std.proofs.Common.{arith, refl, sym, ◌∙◌}
use Rattle.play_json.proofs.Numbers.{number_all, number_more, number_none}
use Rattle.play_json.proofs.request.number_from.Goals as goal

pub loop-digit-init : goal.loop-digit-init
loop-digit-init c = refl

pub loop-digit-preserved : goal.loop-digit-preserved
loop-digit-preserved c =
    number_more c.args.digits.now c.loop-digit.digit-index c.loop-digit.number c.in-Some.next (omega arith)
    (sym c.next_number.ensures ∙ c.in-Some.is) c.loop-digit.invariant

pub returns-in-None : goal.returns-in-None
returns-in-None c =
    sym (number_none c.args.digits.now c.loop-digit.digit-index c.loop-digit.number (omega arith)
    (sym c.next_number.ensures ∙ c.in-None.is) c.loop-digit.invariant)

pub returns : goal.returns
returns c =
    sym (number_all c.args.digits.now c.loop-digit.digit-index c.loop-digit.number (omega arith) c.loop-digit.invariant)
