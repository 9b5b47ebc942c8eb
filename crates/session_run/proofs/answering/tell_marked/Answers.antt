use Rattle.std.proofs.Common.{ap, subst, sym, ◌∙◌, ℕ, List, Option}
use Rattle.std.specs.Borrow.{Bor}
use Rattle.session.specs.Game.{marked_on}
use Rattle.session_lines.specs.Wrote.{WroteText}
use Rattle.session_run.specs.Told.{told_or}
use Rattle.session_run.proofs.answering.tell_marked.Goals as goal

pub returns-in-None-clause-text : goal.returns-in-None-clause-text
returns-in-None-clause-text g c = λ game s h.
    subst (λ (t : List ℕ). WroteText (g.W.Write.contents c.args.writer.now) (g.W.Write.contents c.tell.new.writer) t
    c.tell.result)
    (c.marked.ensures game s h
    ∙ sym (ap (λ (o : Option (Bor (List ℕ))). told_or o (marked_on game s.done)) c.in-None.is)) c.tell.ensures
