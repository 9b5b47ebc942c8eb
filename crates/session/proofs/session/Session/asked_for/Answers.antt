use Rattle.std.proofs.Common.{ap, sym, ◌∙◌, get_or, [], None, Some}
use Rattle.zcore.specs.Turn.{is_waiting}
use Rattle.machine_frames.specs.States.{play_of}
use Rattle.session.specs.Inside.{kept_of}
use Rattle.session.specs.Players.{known_of}
use Rattle.session_lines.specs.Written.{text_of}
use Rattle.session.proofs.Given.{nothing_asked, now_asked}
use Rattle.session.proofs.Insides.{ready_now}
use Rattle.session.proofs.Views.{view_loaded, view_state}
use Rattle.session.proofs.session.Session.asked_for.Goals as goal

pub asked-requires-clause-store : goal.asked-requires-clause-store
asked-requires-clause-store c =
    let i = c.self.inside in
    (ready_now (known_of i.player) i.store i.first i.turns.items i.done c.self.invariant).store

pub asked-requires-clause-settled : goal.asked-requires-clause-settled
asked-requires-clause-settled c = c.self.invariant.settled

pub returns-in-Waiting-clause-waits : goal.returns-in-Waiting-clause-waits
returns-in-Waiting-clause-waits c = sym c.place.ensures.present ∙ c.in-Waiting.is

pub returns-in_err-purpose-clause-asked : goal.returns-in_err-purpose-clause-asked
returns-in_err-purpose-clause-asked c = λ game s h.
    let i = c.self.inside in
    let now = c.args.self.now in
    nothing_asked game s c.args.line.now c.from_residual.result
    (now_asked game s now (known_of i.player).loaded (get_or (kept_of i.first i.turns.items) i.done [])
    (play_of i.store.store) (play_of i.store.store) None h
    (view_loaded i.keep i.fuel (known_of i.player) i.opening.items i.store.store i.first i.turns.items i.done
    (text_of i.given_up) now c.self.view_is)
    c.in_err-purpose.ensures
    (view_state i.keep i.fuel (known_of i.player) i.opening.items i.store.store i.first i.turns.items i.done
    (text_of i.given_up) now (play_of i.store.store) c.self.view_is c.self.invariant.within))
    c.from_residual.ensures

pub returns-in-Waiting-clause-asked : goal.returns-in-Waiting-clause-asked
returns-in-Waiting-clause-asked c = λ game s h.
    let i = c.self.inside in
    let now = c.args.self.now in (
      sym (now_asked game s now (known_of i.player).loaded (get_or (kept_of i.first i.turns.items) i.done [])
          (play_of i.store.store) (play_of i.store.store) (Some c.in_ok-purpose.purpose) h
          (view_loaded i.keep i.fuel (known_of i.player) i.opening.items i.store.store i.first i.turns.items i.done
          (text_of i.given_up) now c.self.view_is)
          c.in_ok-purpose.ensures
          (view_state i.keep i.fuel (known_of i.player) i.opening.items i.store.store i.first i.turns.items i.done
          (text_of i.given_up) now (play_of i.store.store) c.self.view_is c.self.invariant.within)),
      sym (c.can_take.ensures game s h) ∙ c.if-not-can_take.false,
      ap is_waiting (sym (c.place.ensures.place game s h) ∙ c.in-Waiting.is),
    )
