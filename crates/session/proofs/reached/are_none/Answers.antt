use Rattle.std.proofs.Common.{arith}
use Rattle.std.proofs.lemmas.List.{nil_from_length}
use Rattle.session.proofs.reached.are_none.Goals as goal

pub returns : goal.returns
returns c = λ holds. (
  c.keeps_none.ensures holds,
  nil_from_length c.args.drawn.now (omega (arith, c.if-drawn-gt0.false)),
)
