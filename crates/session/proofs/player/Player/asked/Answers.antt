use Rattle.std.proofs.Common.{ap, sym, ◌∙◌}
use Rattle.session.specs.Naming.{asked_with}
use Rattle.session.specs.Players.{known_of}
use Rattle.machine_frames.specs.States.{play_of}
use Rattle.session.proofs.Players.{standard_store}
use Rattle.session.proofs.player.Player.asked.Goals as goal

pub returns-in-Profile : goal.returns-in-Profile
returns-in-Profile c =
    ap (λ k. asked_with k.loaded (play_of c.args.store.now.store)) (sym (ap known_of c.in-Profile.is))

pub asked-requires : goal.asked-requires
asked-requires c =
    standard_store c.in-Standard.machine c.args.store.now.store (known_of c.args.self.now)
    (ap known_of c.in-Standard.is) c.requires.store c.requires.settled

pub returns-in-Standard : goal.returns-in-Standard
returns-in-Standard c =
    c.asked.ensures
    ∙ ap (λ k. asked_with k.loaded (play_of c.args.store.now.store)) (sym (ap known_of c.in-Standard.is))
