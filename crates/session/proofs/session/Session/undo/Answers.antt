use Rattle.std.proofs.Common.{◌≡◌, ◌+◌, ◌-◌, ◌<◌, ap, sym, ◌∙◌, arith, subst, length}
use Rattle.journal.specs.Swap.{Fits}
use Rattle.machine_frames.specs.Contents.{bound_of}
use Rattle.session.specs.Session.{Session}
use Rattle.session.specs.Stepped.{stepped_back}
use Rattle.session.specs.Inside.{view_of}
use Rattle.session.specs.Game.{IsSessionOf}
use Rattle.session_lines.specs.Standing.{undo_of}
use Rattle.session.proofs.Insides.{turn_fits, undo_view, undo_between}
use Rattle.session.proofs.Games.{game_undo}
use Rattle.session.proofs.Sessions.{back_none, found_none, found_some}
use Rattle.session_lines.specs.Written.{text_of}
use Rattle.session.specs.Players.{known_of}
use Rattle.session.proofs.session.Session.undo.Goals as goal

pub returns-then-self-eq0-clause-found : goal.returns-then-self-eq0-clause-found
unfolding view_of
returns-then-self-eq0-clause-found c = λ game s h.
    let present : c.self.inside.done ≡ c.args.self.now.present = ap (λ (v : Session). v.present) c.self.view_is in
    found_none s.kept (omega (arith, h.session.present, c.if-self-eq0.true))

pub returns-then-self-eq0-clause-stepped : goal.returns-then-self-eq0-clause-stepped
unfolding view_of
returns-then-self-eq0-clause-stepped c =
    let present : c.self.inside.done ≡ c.args.self.now.present = ap (λ (v : Session). v.present) c.self.view_is in
    back_none c.args.self.now (omega (arith, c.if-self-eq0.true))

pub returns-then-self-eq0-clause-undone : goal.returns-then-self-eq0-clause-undone
returns-then-self-eq0-clause-undone c = λ game s h.
    subst (IsSessionOf game (undo_of s)) (sym (returns-then-self-eq0-clause-stepped c))
    (game_undo game s c.args.self.now h)

pub take_back-requires-clause-fits : goal.take_back-requires-clause-fits
take_back-requires-clause-fits c =
    let i = c.self.inside in
    let here : i.done - 1 < length i.turns.items = omega (arith, c.self.invariant.within) in
    turn_fits (Fits (length i.store.store.cells) bound_of) i.turns.items (i.done - 1) c.index_mut.result.now here
    c.index_mut.ensures.value c.self.invariant.fits

pub invariant_of-self : goal.invariant_of-self
invariant_of-self c =
    let i = c.self.inside in
    let here : i.done - 1 < length i.turns.items = omega (arith, c.self.invariant.within) in
    let e : i.done - 1 + 1 ≡ i.done = omega arith in
    undo_between (known_of i.player) i.store c.take_back.new.store i.first i.turns.items c.index_mut.result.now
    c.take_back.new.turn (i.done - 1) i.done e
    (record { here = here; is = c.index_mut.ensures.value }) c.take_back.ensures c.self.invariant

pub returns-clause-found : goal.returns-clause-found
unfolding view_of
returns-clause-found c = λ game s h.
    let present : c.self.inside.done ≡ c.args.self.now.present = ap (λ (v : Session). v.present) c.self.view_is in
    found_some s.kept (omega (arith, h.session.present))

pub returns-clause-stepped : goal.returns-clause-stepped
unfolding view_of
returns-clause-stepped c =
    let i = c.self.inside in
    let here : i.done - 1 < length i.turns.items = omega (arith, c.self.invariant.within) in
    let e : i.done - 1 + 1 ≡ i.done = omega arith in
    undo_view i.keep i.fuel (known_of i.player) i.opening.items i.store c.take_back.new.store i.first i.turns.items
    c.index_mut.result.now c.take_back.new.turn (i.done - 1) i.done (text_of i.given_up) e
    (record { here = here; is = c.index_mut.ensures.value }) c.take_back.ensures
    ∙ ap {A = Session} stepped_back c.self.view_is

pub returns-clause-undone : goal.returns-clause-undone
returns-clause-undone c = λ game s h.
    subst (IsSessionOf game (undo_of s)) (sym (returns-clause-stepped c))
    (game_undo game s c.args.self.now h)
