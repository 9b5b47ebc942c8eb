use Rattle.machine_opcodes.proofs.SignedWords.{one_digit, two_digits, three_digits, four_digits, five_digits}
use Rattle.machine_opcodes.proofs.numbers.decimal_digits.Goals as goal

pub returns-then-number-lt10-clause-digits : goal.returns-then-number-lt10-clause-digits
returns-then-number-lt10-clause-digits c = rw c.digit-5.ensures (one_digit c.args.number c.if-number-lt10.true)

pub returns-then-number-lt100-clause-digits : goal.returns-then-number-lt100-clause-digits
returns-then-number-lt100-clause-digits c = rw (c.digit-4.ensures, c.digit-5.ensures)
    (two_digits c.args.number c.if-number-lt10.false c.if-number-lt100.true)

pub returns-then-number-lt1000-clause-digits : goal.returns-then-number-lt1000-clause-digits
returns-then-number-lt1000-clause-digits c = rw (c.digit-3.ensures, c.digit-4.ensures, c.digit-5.ensures)
    (three_digits c.args.number c.if-number-lt100.false c.if-number-lt1000.true)

pub returns-then-number-lt10000-clause-digits : goal.returns-then-number-lt10000-clause-digits
returns-then-number-lt10000-clause-digits c = rw
    (c.digit-2.ensures, c.digit-3.ensures, c.digit-4.ensures, c.digit-5.ensures)
    (four_digits c.args.number c.if-number-lt1000.false c.if-number-lt10000.true)

pub returns-else-number-lt10000-clause-digits : goal.returns-else-number-lt10000-clause-digits
returns-else-number-lt10000-clause-digits c = rw
    (c.digit.ensures, c.digit-2.ensures, c.digit-3.ensures, c.digit-4.ensures, c.digit-5.ensures)
    (five_digits c.args.number c.if-number-lt10000.false)
