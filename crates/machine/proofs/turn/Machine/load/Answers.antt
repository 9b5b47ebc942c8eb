use Rattle.std.proofs.Common.{Ok, subst}
use Rattle.zcore.specs.Header.{Reads}
use Rattle.machine.proofs.Loading.{loaded}
use Rattle.machine.proofs.turn.Machine.load.Goals as goal

pub returns-in-Ok-new : goal.returns-in-Ok-new
returns-in-Ok-new c =
    loaded _ _ c.in-Ok-new.store (subst (λ l. Reads l (Ok c.in-Ok.header)) c.deref.ensures.value c.in-Ok.ensures)
    c.in-Ok-new.ensures.sound c.in-Ok-new.ensures.state
