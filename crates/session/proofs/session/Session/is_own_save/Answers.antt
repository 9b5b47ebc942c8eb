use Rattle.std.proofs.Common.{ap, sym, ◌∙◌}
use Rattle.session.specs.Given.{is_own_with}
use Rattle.session.specs.Players.{known_of}
use Rattle.session_lines.specs.Written.{text_of}
use Rattle.session.proofs.Insides.{ready_now}
use Rattle.session.proofs.Views.{view_loaded}
use Rattle.session.proofs.session.Session.is_own_save.Goals as goal

pub is_own_save-requires-clause-store : goal.is_own_save-requires-clause-store
is_own_save-requires-clause-store c =
    let i = c.self.inside in (
      i.store.store,
      (ready_now (known_of i.player) i.store i.first i.turns.items i.done c.self.invariant).store,
    )

pub is_own_save-requires-clause-settled : goal.is_own_save-requires-clause-settled
is_own_save-requires-clause-settled c = c.self.invariant.settled

pub returns : goal.returns
returns c =
    let i = c.self.inside in
    c.is_own_save.ensures
    ∙ ap (λ l. is_own_with l c.args.bytes.now)
    (sym (view_loaded i.keep i.fuel (known_of i.player) i.opening.items i.store.store i.first i.turns.items i.done
    (text_of i.given_up) c.args.self.now c.self.view_is))
