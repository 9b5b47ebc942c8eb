use Rattle.std.proofs.Common.{sym, subst, get_or, []}
use Rattle.machine_frames.specs.States.{play_of}
use Rattle.session.specs.Given.{IsSaveIn}
use Rattle.session.specs.Inside.{kept_of}
use Rattle.session.specs.Players.{known_of}
use Rattle.session_lines.specs.Written.{text_of}
use Rattle.session.proofs.Given.{save_keeping}
use Rattle.session.proofs.Insides.{ready_now}
use Rattle.session.proofs.Views.{view_loaded, view_state}
use Rattle.session.proofs.session.Session.saved_game.Goals as goal

pub saved_game-requires-clause-store : goal.saved_game-requires-clause-store
saved_game-requires-clause-store c =
    let i = c.self.inside in
    (ready_now (known_of i.player) i.store i.first i.turns.items i.done c.self.invariant).store

pub saved_game-requires-clause-settled : goal.saved_game-requires-clause-settled
saved_game-requires-clause-settled c = c.self.invariant.settled

pub returns-in-Ok : goal.returns-in-Ok
returns-in-Ok c = λ state.
    let i = c.self.inside in
    subst (λ l. IsSaveIn l (get_or c.args.self.now.states c.args.self.now.present state) c.in-Ok.file)
    (sym (view_loaded i.keep i.fuel (known_of i.player) i.opening.items i.store.store i.first i.turns.items i.done
    (text_of i.given_up) c.args.self.now c.self.view_is))
    (subst (λ p. IsSaveIn (known_of i.player).loaded p c.in-Ok.file)
    (sym (view_state i.keep i.fuel (known_of i.player) i.opening.items i.store.store i.first i.turns.items i.done
    (text_of i.given_up) c.args.self.now state c.self.view_is c.self.invariant.within))
    (save_keeping (known_of i.player).loaded (get_or (kept_of i.first i.turns.items) i.done [])
    (play_of i.store.store) c.in-Ok.file c.in-Ok.ensures))
