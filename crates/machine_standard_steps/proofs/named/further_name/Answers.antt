use Rattle.std.proofs.Common.{sym}
use Rattle.machine_standard_steps.proofs.Stepping.{finds_none, finds_some}
use Rattle.machine_standard_steps.proofs.named.further_name.Goals as goal

pub returns-in-None : goal.returns-in-None
returns-in-None c = sym (finds_none _ c.in-None.ensures)

pub returns-in-Some : goal.returns-in-Some
returns-in-Some c = sym (finds_some _ _ _ c.in-Some.ensures).found
