use Rattle.std.proofs.Common.{subst, sym}
use Rattle.session.specs.Players.{IsPlayerOf}
use Rattle.session.proofs.Players.{standard_known, standard_player}
use Rattle.session.proofs.player.Player.load.Goals as goal

pub returns-in-Ok-load : goal.returns-in-Ok-load
returns-in-Ok-load c =
    subst (λ m. IsPlayerOf m c.args.story.items (standard_known c.in-Ok-load.machine) c.in-Ok-load.store)
    (sym c.in-Standard.is)
    (standard_player c.args.story.items c.in-Standard.options c.in-Ok-load.machine c.in-Ok-load.store
    c.in-Ok-load.ensures)
