use Rattle.std.proofs.Common.{true, false, sym, ◌∙◌, subst}
use Rattle.session_lines.specs.Wrote.{WroteText}
use Rattle.session_run.proofs.Replying.{reply_over, reply_waiting}
use Rattle.session_run.proofs.answering.answer_status.Goals as goal

pub returns-then-not-waits-clause-says : goal.returns-then-not-waits-clause-says
returns-then-not-waits-clause-says g c = λ game s h. (
  false,
  subst (λ t. WroteText (g.W.Write.contents c.args.writer.now) (g.W.Write.contents c.tell.new.writer) t c.tell.result)
      (sym (reply_over game s (sym (c.waits.ensures game s h) ∙ c.if-not-waits.true))) c.tell.ensures,
)

pub returns-in-Ok-clause-says : goal.returns-in-Ok-clause-says
returns-in-Ok-clause-says g c = λ game s h. (
  false,
  subst (λ t. WroteText (g.W.Write.contents c.args.writer.now) (g.W.Write.contents c.put_status.new.writer) t
      c.put_status.result)
      (sym (reply_waiting game s c.in-Ok.line.now (sym (c.waits.ensures game s h) ∙ c.if-not-waits.false)
      (c.in-Ok.ensures.line game s h))) c.put_status.ensures,
)

pub returns-in-Err-clause-says : goal.returns-in-Err-clause-says
returns-in-Err-clause-says g c = λ game s h. (true, c.tell-in-Err.ensures)
