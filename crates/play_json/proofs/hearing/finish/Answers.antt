use Rattle.std.proofs.Common.{◌≤◌, ◌∙◌, length, sym, subst}
use Rattle.play_json.specs.Heard.{IsBroken, IsHeard}
use Rattle.play_json.specs.Said.{held}
use Rattle.play_json.proofs.Chaining.{answered_err}
use Rattle.play_json.proofs.hearing.finish.Goals as goal
use Rattle.play_json.proofs.hearing.finish.Goals.{then-line+in_ok-refuse, else-line+in_ok-answer}

pub returns-in_err-refuse-clause-answers : goal.returns-in_err-refuse-clause-answers
returns-in_err-refuse-clause-answers g c = λ full kept.
    answered_err full (g.W.Write.contents c.args.writer.now) (g.W.Write.contents c.refuse.new.writer)
    (held c.args.session.now c.args.lines.now) (held c.refuse.new.session c.args.lines.now) c.from_residual.result
    c.from_residual.ensures.0 (c.in_err-refuse.ensures full c.args.lines.now (kept.long c.if-line.true))

pub returns-in_err-answer-clause-answers : goal.returns-in_err-answer-clause-answers
returns-in_err-answer-clause-answers g c = λ full kept.
    answered_err full (g.W.Write.contents c.args.writer.now) (g.W.Write.contents c.answer.new.writer)
    (held c.args.session.now c.args.lines.now) (held c.answer.new.session c.answer.new.lines)
    c.from_residual-in_err-answer.result c.from_residual-in_err-answer.ensures.0
    (subst (λ x. IsBroken x (g.W.Write.contents c.args.writer.now) (held c.args.session.now c.args.lines.now)
    (g.W.Write.contents c.answer.new.writer) (held c.answer.new.session c.answer.new.lines)) (kept.short c.if-line.false)
    c.in_err-answer.ensures)

pub returns-clause-answers : goal.returns-clause-answers
returns-clause-answers g c = λ full kept.
    let w = g.W.Write.contents c.args.writer.now in
    let h = held c.args.session.now c.args.lines.now in
    let now = c.if-line in
    elim c.if-line.branch [
      | then-line+in_ok-refuse t ↦
          subst (λ x. IsHeard full w h (g.W.Write.contents x) (held now.session now.lines)) (sym t.writer-is)
          (subst (λ x. IsHeard full w h (g.W.Write.contents t.refuse.new.writer) (held x now.lines)) (sym t.session-is)
          (subst (λ x. IsHeard full w h (g.W.Write.contents t.refuse.new.writer) (held t.refuse.new.session x))
          (sym t.lines-is) (t.in_ok-refuse.ensures full c.args.lines.now (kept.long t.if-line.true))))
      | else-line+in_ok-answer t ↦
          subst (λ x. IsHeard full w h (g.W.Write.contents x) (held now.session now.lines)) (sym t.writer-is)
          (subst (λ x. IsHeard full w h (g.W.Write.contents t.answer.new.writer) (held x now.lines)) (sym t.session-is)
          (subst (λ x. IsHeard full w h (g.W.Write.contents t.answer.new.writer) (held t.answer.new.session x))
          (sym t.lines-is)
          (subst (λ x. IsHeard x w h (g.W.Write.contents t.answer.new.writer) (held t.answer.new.session t.answer.new.lines))
          (kept.short t.if-line.false) t.in_ok-answer.ensures)))
    ]
