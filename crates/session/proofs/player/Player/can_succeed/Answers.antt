use Rattle.std.proofs.Common.{ap, sym, subst, refl, false}
use Rattle.std.specs.Prelude.{IfOk}
use Rattle.session.specs.Given.{IsPossibleIn}
use Rattle.session.specs.Players.{known_of}
use Rattle.machine_frames.specs.States.{play_of}
use Rattle.session.proofs.Players.{standard_store}
use Rattle.session.proofs.player.Player.can_succeed.Goals as goal

pub returns-in-Profile : goal.returns-in-Profile
returns-in-Profile c = subst (λ k. IsPossibleIn k.loaded (play_of c.args.store.now.store) false)
    (sym (ap known_of c.in-Profile.is)) refl

pub can_succeed-requires : goal.can_succeed-requires
can_succeed-requires c =
    standard_store c.in-Standard.machine c.args.store.now.store (known_of c.args.self.now)
    (ap known_of c.in-Standard.is) c.requires.store c.requires.settled

pub returns-in-Standard : goal.returns-in-Standard
returns-in-Standard c =
    subst (λ k. IfOk c.can_succeed.result (IsPossibleIn k.loaded (play_of c.args.store.now.store)))
    (sym (ap known_of c.in-Standard.is)) c.can_succeed.ensures
