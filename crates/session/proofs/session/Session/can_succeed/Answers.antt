use Rattle.std.proofs.Common.{sym, subst, get_or, []}
use Rattle.std.specs.Prelude.{IfOk}
use Rattle.machine_frames.specs.States.{play_of}
use Rattle.session.specs.Given.{IsPossibleIn}
use Rattle.session.specs.Inside.{kept_of}
use Rattle.session.specs.Players.{known_of}
use Rattle.session_lines.specs.Written.{text_of}
use Rattle.session.proofs.Given.{possible_if}
use Rattle.session.proofs.Insides.{ready_now}
use Rattle.session.proofs.Views.{view_loaded, view_state}
use Rattle.session.proofs.session.Session.can_succeed.Goals as goal

pub can_succeed-requires-clause-store : goal.can_succeed-requires-clause-store
can_succeed-requires-clause-store c =
    let i = c.self.inside in
    (ready_now (known_of i.player) i.store i.first i.turns.items i.done c.self.invariant).store

pub can_succeed-requires-clause-settled : goal.can_succeed-requires-clause-settled
can_succeed-requires-clause-settled c = c.self.invariant.settled

pub returns : goal.returns
returns c = λ state.
    let i = c.self.inside in
    subst (λ l. IfOk c.can_succeed.result
    (IsPossibleIn l (get_or c.args.self.now.states c.args.self.now.present state)))
    (sym (view_loaded i.keep i.fuel (known_of i.player) i.opening.items i.store.store i.first i.turns.items i.done
    (text_of i.given_up) c.args.self.now c.self.view_is))
    (subst (λ p. IfOk c.can_succeed.result (IsPossibleIn (known_of i.player).loaded p))
    (sym (view_state i.keep i.fuel (known_of i.player) i.opening.items i.store.store i.first i.turns.items i.done
    (text_of i.given_up) c.args.self.now state c.self.view_is c.self.invariant.within))
    (possible_if (known_of i.player).loaded (get_or (kept_of i.first i.turns.items) i.done [])
    (play_of i.store.store) c.can_succeed.result c.can_succeed.ensures))
