use Rattle.std.proofs.Common.{arith}
use Rattle.machine_opcodes.proofs.SignedWords.{rem_small, remainder_positive, remainder_under}
use Rattle.machine_opcodes.proofs.arithmetic.remainder.Goals as goal

pub returns-then-x-lt-NEGATIVE : goal.returns-then-x-lt-NEGATIVE
returns-then-x-lt-NEGATIVE c = (
  omega arith,
  remainder_positive c.args.x c.args.y _ _ c.if-x-lt-NEGATIVE.true c.magnitude.ensures
      c.magnitude-2.ensures,
)

pub returns-else-x-lt-NEGATIVE : goal.returns-else-x-lt-NEGATIVE
returns-else-x-lt-NEGATIVE c = (
  omega arith,
  remainder_under c.args.x c.args.y c.magnitude.result c.magnitude-2.result c.wrapping_neg.result
      c.if-x-lt-NEGATIVE.false c.magnitude.ensures c.magnitude-2.ensures c.wrapping_neg.type_inv
      (omega (arith, c.magnitude.type_inv, rem_small c.magnitude.result c.magnitude-2.result)) c.wrapping_neg.ensures,
)
