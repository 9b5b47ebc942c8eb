use Rattle.std.proofs.Common.{ap, ◌∙◌, arith}
use Rattle.zcore.specs.Arithmetic.{decimal}
use Rattle.machine_opcodes.proofs.SignedWords.{signed_positive, signed_under}
use Rattle.machine_opcodes.proofs.numbers.signed_digits.Goals as goal

pub returns-then-number-lt-NEGATIVE-clause-digits : goal.returns-then-number-lt-NEGATIVE-clause-digits
returns-then-number-lt-NEGATIVE-clause-digits c = c.decimal_digits-first.ensures.digits
    ∙ ap decimal c.magnitude.ensures ∙ signed_positive c.args.number c.if-number-lt-NEGATIVE.true

pub returns-clause-digits : goal.returns-clause-digits
returns-clause-digits c =
    signed_under c.args.number _ _ c.if-number-lt-NEGATIVE.false c.decimal_digits-first.ensures.room
    (omega (arith, c.decimal_digits-first.ensures.length, c.decimal_digits-first.ensures.within))
    (c.decimal_digits-first.ensures.digits ∙ ap decimal c.magnitude.ensures)
