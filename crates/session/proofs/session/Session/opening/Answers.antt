use Rattle.std.proofs.Common.{ap, ◌∙◌}
use Rattle.session.specs.Session.{Session}
use Rattle.session.specs.Inside.{view_of}
use Rattle.session.proofs.session.Session.opening.Goals as goal

pub returns-clause-text : goal.returns-clause-text
unfolding view_of
returns-clause-text c = c.deref.ensures.value ∙ ap (λ (v : Session). v.opening) c.self.view_is

pub returns-clause-opening : goal.returns-clause-opening
unfolding view_of
returns-clause-opening c = λ game s h. c.deref.ensures.value
    ∙ ap (λ (v : Session). v.opening) c.self.view_is ∙ h.session.opening
