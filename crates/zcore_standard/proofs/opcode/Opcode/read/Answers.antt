use Rattle.std.proofs.Common.{length, arith, refl}
use Rattle.std.proofs.lemmas.Bool.{lt-ltb, ne_eqb}
use Rattle.zcore_standard.proofs.opcode.Opcode.read.Goals as goal

pub returns-then-first : goal.returns-then-first
returns-then-first c =
    rw (lt-ltb c.args.at (length c.args.story.now) (omega arith), c.if-first.true) c.extended.ensures

pub returns : goal.returns
returns c =
    rw (
      lt-ltb c.args.at (length c.args.story.now) (omega arith),
      ne_eqb _ 190 c.if-first.false,
      c.plain.ensures,
    ) refl
