use Rattle.std.proofs.Common.{◌∙◌, sym, subst, [], ℕ, List}
use Rattle.session_lines.specs.Standing.{nothing}
use Rattle.session_lines.specs.Wrote.{WroteText}
use Rattle.session_run.proofs.Marked.{told_marked, told_plain}
use Rattle.session_run.proofs.running.tell_opening.Goals as goal

pub returns-then-keeps_styles : goal.returns-then-keeps_styles
returns-then-keeps_styles g c = λ game h.
    subst (λ (t : List ℕ). WroteText (g.W.Write.contents c.args.writer.now) (g.W.Write.contents c.tell.new.writer) t
    c.tell.result)
    (c.marked.ensures game nothing h
    ∙ told_marked game [] (sym (c.keeps_styles.ensures game nothing h) ∙ c.if-keeps_styles.true)) c.tell.ensures

pub returns : goal.returns
returns g c = λ game h.
    subst (λ (t : List ℕ). WroteText (g.W.Write.contents c.args.writer.now) (g.W.Write.contents c.tell-2.new.writer) t
    c.tell-2.result)
    (c.opening.ensures.opening game nothing h
    ∙ told_plain game [] (sym (c.keeps_styles.ensures game nothing h) ∙ c.if-keeps_styles.false)) c.tell-2.ensures
