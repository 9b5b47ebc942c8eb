use Rattle.std.proofs.Common.{arith, refl}
use Rattle.machine_picture.proofs.lines.shown_in.Goals as goal

pub returns-in-None : goal.returns-in-None
returns-in-None c = rw c.in-None.is (record { kept = omega arith; within = tt; left = λ each le. refl; part = refl })

pub returns-in-Some : goal.returns-in-Some
returns-in-Some c = rw c.in-Some.is c.shown_of.ensures
