use Rattle.std.proofs.Common.{arith, subst, sym}
use Rattle.std.specs.Io.KnownBytes.{Consumes}
use Rattle.screen.specs.Asked.{GivesByte}
use Rattle.screen.proofs.Questions.{first_written}
use Rattle.screen.proofs.asking.AskingRead.read.Goals as goal

pub returns-in-Some-clause-bytes : goal.returns-in-Some-clause-bytes
returns-in-Some-clause-bytes g c = (
  subst (Consumes _ _) (sym (first_written c.args.buf.now c.in-Some.byte (sym c.if-is_empty.ensures)))
      (subst (GivesByte _ _) c.in-Some.is c.in_ok-byte.ensures),
  (λ zero. absurd (omega (arith, zero))),
)
