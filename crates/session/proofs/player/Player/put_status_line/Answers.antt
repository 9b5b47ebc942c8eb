use Rattle.std.proofs.Common.{◌≡◌, ap, sym, subst, ◌∙◌}
use Rattle.std.specs.Prelude.{OnOk}
use Rattle.session.specs.Asking.{line_with}
use Rattle.session.specs.Players.{known_of}
use Rattle.machine_frames.specs.States.{play_of}
use Rattle.session.proofs.Players.{standard_store}
use Rattle.session.proofs.player.Player.put_status_line.Goals as goal

pub returns-in-Profile-clause-line : goal.returns-in-Profile-clause-line
returns-in-Profile-clause-line c =
    c.requires.empty ∙ ap (λ k. line_with k.loaded (play_of c.args.store.now.store)) (sym (ap known_of c.in-Profile.is))

pub put_status_line-requires-clause-store : goal.put_status_line-requires-clause-store
put_status_line-requires-clause-store c =
    standard_store c.in-Standard.machine c.args.store.now.store (known_of c.args.self.now)
    (ap known_of c.in-Standard.is) c.requires.store c.requires.settled

pub returns-in-Standard-clause-line : goal.returns-in-Standard-clause-line
returns-in-Standard-clause-line c =
    subst (λ k. OnOk c.put_status_line.result
    (c.put_status_line.new.text.items ≡ line_with k.loaded (play_of c.args.store.now.store)))
    (sym (ap known_of c.in-Standard.is)) c.put_status_line.ensures.line
