use Rattle.std.proofs.Common.{ap, sym, ◌∙◌}
use Rattle.session.specs.Asking.{asks_with}
use Rattle.session.specs.Players.{known_of}
use Rattle.session_lines.specs.Written.{text_of}
use Rattle.session.proofs.Views.{view_loaded}
use Rattle.session.proofs.session.Session.asks.Goals as goal

pub returns : goal.returns
returns c = λ game s h.
    let i = c.self.inside in
    c.asks.ensures
    ∙ ap (λ l. asks_with l c.args.line.now)
    (sym (view_loaded i.keep i.fuel (known_of i.player) i.opening.items i.store.store i.first i.turns.items i.done
    (text_of i.given_up) c.args.self.now c.self.view_is) ∙ h.loaded)
