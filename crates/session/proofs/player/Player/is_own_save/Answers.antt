use Rattle.std.proofs.Common.{ap, sym, ◌∙◌}
use Rattle.session.specs.Given.{is_own_with}
use Rattle.session.specs.Players.{known_of}
use Rattle.session.proofs.Players.{standard_store}
use Rattle.session.proofs.player.Player.is_own_save.Goals as goal

pub returns-in-Profile : goal.returns-in-Profile
returns-in-Profile c = ap (λ k. is_own_with k.loaded c.args.bytes.now) (sym (ap known_of c.in-Profile.is))

pub returns-in-Standard : goal.returns-in-Standard
returns-in-Standard c =
    c.is_own_save.ensures ∙ ap (λ k. is_own_with k.loaded c.args.bytes.now) (sym (ap known_of c.in-Standard.is))

pub is_own_save-requires : goal.is_own_save-requires
is_own_save-requires c = (
  c.requires.store.0,
  standard_store c.in-Standard.machine c.requires.store.0 (known_of c.args.self.now) (ap known_of c.in-Standard.is)
      c.requires.store.1 c.requires.settled,
)
