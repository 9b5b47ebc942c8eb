use Rattle.std.proofs.Common.{ap, ◌∙◌}
use Rattle.session.specs.Players.{known_of}
use Rattle.session.specs.Shown.{Showing}
use Rattle.session_lines.specs.Written.{text_of}
use Rattle.session.proofs.Views.{view_showing}
use Rattle.session.proofs.session.Session.keeps_styles.Goals as goal

pub returns : goal.returns
returns c = λ game s h.
    let i = c.self.inside in
    ap (λ (x : Showing). x.styles)
    (view_showing i.keep i.fuel (known_of i.player) i.opening.items i.store.store i.first i.turns.items i.done
    (text_of i.given_up) c.args.self.now c.self.view_is ∙ h.showing)
