use Rattle.std.proofs.Common.{ap, sym, subst, refl, None}
use Rattle.std.specs.Prelude.{IfOk}
use Rattle.session.specs.Given.{IsSaveIn}
use Rattle.session.specs.Players.{known_of}
use Rattle.machine_frames.specs.States.{play_of}
use Rattle.session.proofs.Players.{saves_of, standard_store}
use Rattle.session.proofs.player.Player.saved_game.Goals as goal

pub returns-in-Profile : goal.returns-in-Profile
returns-in-Profile c = subst (λ k. IsSaveIn k.loaded (play_of c.args.store.now.store) None)
    (sym (ap known_of c.in-Profile.is)) refl

pub saved_game-requires : goal.saved_game-requires
saved_game-requires c =
    standard_store c.in-Standard.machine c.args.store.now.store (known_of c.args.self.now)
    (ap known_of c.in-Standard.is) c.requires.store c.requires.settled

pub returns-in-Standard : goal.returns-in-Standard
returns-in-Standard c =
    subst (λ k. IfOk c.saved_game.result (IsSaveIn k.loaded (play_of c.args.store.now.store)))
    (sym (ap known_of c.in-Standard.is))
    (saves_of c.in-Standard.machine c.args.store.now.store c.saved_game.result c.saved_game.ensures)
