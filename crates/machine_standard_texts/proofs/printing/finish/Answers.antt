use Rattle.std.proofs.Common.{subst}
use Rattle.machine_standard_texts.specs.Put.{Prints}
use Rattle.machine_standard_texts.proofs.Adding.{finished}
use Rattle.machine_standard_texts.proofs.printing.finish.Goals as goal

pub returns-in-None : goal.returns-in-None
returns-in-None c = λ was now f p. finished c.args.store.now c.args.halted c.in-None.is c.requires was now f p

pub returns-in-Some : goal.returns-in-Some
returns-in-Some c = λ was now f p. c.halted_end.ensures was now f (subst (λ h. Prints h was now f) c.in-Some.is p)
