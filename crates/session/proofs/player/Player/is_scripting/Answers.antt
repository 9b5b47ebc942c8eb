use Rattle.std.proofs.Common.{ap, sym, ◌∙◌}
use Rattle.machine_frames.specs.States.{play_of}
use Rattle.session.specs.Players.{known_of}
use Rattle.session.specs.Scripts.{is_on_with}
use Rattle.session.proofs.Players.{standard_store}
use Rattle.session.proofs.player.Player.is_scripting.Goals as goal

pub returns-in-Profile : goal.returns-in-Profile
returns-in-Profile c =
    ap (λ k. is_on_with k.loaded (play_of c.args.store.now.store)) (sym (ap known_of c.in-Profile.is))

pub is_scripting-requires : goal.is_scripting-requires
is_scripting-requires c =
    standard_store c.in-Standard.machine c.args.store.now.store (known_of c.args.self.now)
    (ap known_of c.in-Standard.is) c.requires.store c.requires.settled

pub returns-in-Standard : goal.returns-in-Standard
returns-in-Standard c =
    c.is_scripting.ensures
    ∙ ap (λ k. is_on_with k.loaded (play_of c.args.store.now.store)) (sym (ap known_of c.in-Standard.is))
