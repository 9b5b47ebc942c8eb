use Rattle.std.proofs.Common.{ap, ◌∙◌, arith, get_or}
use Rattle.zcore.specs.declared.place.Place.TheVariants as places
use Rattle.session.specs.Game.{bytes_of, play_on}
use Rattle.session.specs.Session.{Session}
use Rattle.session.specs.Inside.{view_of}
use Rattle.session.proofs.Views.{first_place, later_place}
use Rattle.session.proofs.Sessions.{session_place}
use Rattle.session.proofs.session.Session.place.Goals as goal

pub returns-then-self-eq0-clause-present : goal.returns-then-self-eq0-clause-present
unfolding view_of
returns-then-self-eq0-clause-present c =
    let i = c.self.inside in
    c.place.ensures ∙ first_place i.first i.turns.items i.done c.if-self-eq0.true
    ∙ ap (λ (v : Session). get_or v.places v.present places.Quit) c.self.view_is

pub returns-else-self-eq0-clause-present : goal.returns-else-self-eq0-clause-present
unfolding view_of
returns-else-self-eq0-clause-present c =
    let i = c.self.inside in
    c.place-else-self-eq0.ensures
    ∙ later_place i.first i.turns.items i.done c.index.result.now (omega arith)
    (omega (arith, c.self.invariant.within)) c.index.ensures
    ∙ ap (λ (v : Session). get_or v.places v.present places.Quit) c.self.view_is

pub returns-then-self-eq0-clause-place : goal.returns-then-self-eq0-clause-place
returns-then-self-eq0-clause-place c = λ game s h.
    session_place (bytes_of game) game.fuel (play_on game) game.keep s c.args.self.now
    c.place.result (returns-then-self-eq0-clause-present c) h.session

pub returns-else-self-eq0-clause-place : goal.returns-else-self-eq0-clause-place
returns-else-self-eq0-clause-place c = λ game s h.
    session_place (bytes_of game) game.fuel (play_on game) game.keep s c.args.self.now
    c.place-else-self-eq0.result (returns-else-self-eq0-clause-present c) h.session
