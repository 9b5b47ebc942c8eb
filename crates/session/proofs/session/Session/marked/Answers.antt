use Rattle.std.proofs.Common.{ap, ◌∙◌}
use Rattle.session.specs.Players.{known_of}
use Rattle.session.specs.Shown.{Shown}
use Rattle.session_lines.specs.Written.{text_of}
use Rattle.session.proofs.Showings.{marked_text}
use Rattle.session.proofs.Views.{view_shown}
use Rattle.session.proofs.session.Session.marked.Goals as goal

pub reached_at-requires : goal.reached_at-requires
reached_at-requires c = c.self.invariant.within

pub returns : goal.returns
returns c = λ game s h.
    let i = c.self.inside in
    let now = c.args.self.now in
    c.marked.ensures ∙ ap (λ (x : Shown). x.marked) (c.reached_at.ensures
    ∙ view_shown i.keep i.fuel (known_of i.player) i.opening.items i.store.store i.first i.turns.items i.done
    (text_of i.given_up) now c.self.view_is)
    ∙ marked_text game s now h
