use Rattle.std.proofs.Common.{refl, arith}
use Rattle.machine_opcodes.proofs.SignedWords.{less_is}
use Rattle.machine_opcodes.proofs.arithmetic.signed_less.Goals as goal

pub returns : goal.returns
returns c = less_is c.args.x c.args.y _ _ (omega arith) (omega arith) refl refl
