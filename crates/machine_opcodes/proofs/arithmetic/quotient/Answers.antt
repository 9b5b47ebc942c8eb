use Rattle.std.proofs.Common.{arith}
use Rattle.machine_opcodes.proofs.SignedWords.{div_small, quotient_same, quotient_other}
use Rattle.machine_opcodes.proofs.arithmetic.quotient.Goals as goal

pub returns-then-x-y : goal.returns-then-x-y
returns-then-x-y c =
    (omega arith, quotient_same c.args.x c.args.y _ _ c.if-x-y.true c.magnitude.ensures c.magnitude-2.ensures)

pub returns-else-x-y : goal.returns-else-x-y
returns-else-x-y c = (
  omega arith,
  quotient_other c.args.x c.args.y c.magnitude.result c.magnitude-2.result c.wrapping_neg.result
      c.if-x-y.false c.magnitude.ensures c.magnitude-2.ensures c.wrapping_neg.type_inv
      (omega (arith, c.magnitude.type_inv, div_small c.magnitude.result c.magnitude-2.result)) c.wrapping_neg.ensures,
)
