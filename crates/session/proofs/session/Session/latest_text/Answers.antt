use Rattle.std.proofs.Common.{◌-◌, ◌<◌, ◌∙◌, arith, length}
use Rattle.session.proofs.Views.{counted, turn_text, view_given_up}
use Rattle.session.proofs.Sessions.{text_none, text_some}
use Rattle.session_lines.specs.Written.{text_of}
use Rattle.session.specs.Players.{known_of}
use Rattle.session.proofs.session.Session.latest_text.Goals as goal

pub returns-then-self-eq0 : goal.returns-then-self-eq0
returns-then-self-eq0 c =
    let i = c.self.inside in
    let n = counted i.keep i.fuel (known_of i.player) i.opening.items i.store.store i.first i.turns.items i.done
    (text_of i.given_up) c.args.self.now c.self.view_is in
    c.text.ensures ∙ view_given_up i.keep i.fuel (known_of i.player) i.opening.items i.store.store i.first
    i.turns.items i.done (text_of i.given_up) c.args.self.now c.self.view_is
    ∙ text_none c.args.self.now (omega (arith, n.present, c.if-self-eq0.true))

pub returns-else-self-eq0 : goal.returns-else-self-eq0
returns-else-self-eq0 c =
    let i = c.self.inside in
    let n = counted i.keep i.fuel (known_of i.player) i.opening.items i.store.store i.first i.turns.items i.done
    (text_of i.given_up) c.args.self.now c.self.view_is in
    let here : i.done - 1 < length i.turns.items = omega (arith, c.self.invariant.within) in
    c.text-else-self-eq0.ensures
    ∙ turn_text i.keep i.fuel (known_of i.player) i.opening.items i.store.store i.first i.turns.items i.done
    (text_of i.given_up) c.args.self.now (i.done - 1) c.index.result.now c.self.view_is here c.index.ensures
    ∙ text_some c.args.self.now (i.done - 1) (omega (arith, n.present))
