use Rattle.std.proofs.Common.{Some, ap}
use Rattle.machine_standard_texts.proofs.Adding.{full}
use Rattle.machine_standard_texts.proofs.printing.halted_end.Goals as goal

pub returns-in-Full : goal.returns-in-Full
returns-in-Full c = λ was now f p. full c.args.store.now (Some c.args.halt) (ap Some c.in-Full.is)
    c.requires was now f p
