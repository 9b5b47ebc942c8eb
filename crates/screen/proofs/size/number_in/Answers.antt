use Rattle.std.proofs.Common.{arith, sym}
use Rattle.screen.proofs.Texts.{number_all, number_fails, number_more}
use Rattle.screen.proofs.size.number_in.Goals as goal

pub loop-digit-preserved : goal.loop-digit-preserved
loop-digit-preserved c = record {
  small = omega (arith, c.min-number.ensures);
  so_far = number_more c.args.digits.now c.loop-digit.number c.loop-digit.digit-index _ _ (omega arith)
      (sym c.if-not-is_digit.ensures) c.min-number.ensures c.loop-digit.invariant.so_far;
}

pub returns-then-not-is_digit : goal.returns-then-not-is_digit
returns-then-not-is_digit c = number_fails c.args.digits.now c.loop-digit.number c.loop-digit.digit-index
    (omega arith) (sym c.if-not-is_digit.ensures) c.loop-digit.invariant.so_far

pub returns : goal.returns
returns c = number_all c.args.digits.now c.loop-digit.number c.loop-digit.digit-index (sym c.if-is_empty.ensures) (omega arith)
    c.loop-digit.invariant.so_far
