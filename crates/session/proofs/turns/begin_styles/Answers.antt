use Rattle.std.proofs.Common.{ap, sym, ◌∙◌}
use Rattle.std.proofs.lemmas.Bool.{false≢true}
use Rattle.machine_picture.specs.Styles.{begun}
use Rattle.session.specs.Shown.{Shown}
use Rattle.session.proofs.turns.begin_styles.Goals as goal

pub returns-then-not-keeps_styles : goal.returns-then-not-keeps_styles
returns-then-not-keeps_styles c = λ asked. absurd (false≢true (sym c.if-not-keeps_styles.true ∙ asked))

pub returns : goal.returns
returns c = λ _. c.new.ensures
    ∙ ap (λ n. begun n 0) (c.style.ensures ∙ ap (λ (x : Shown). x.style) c.reached_at.ensures)
