use Rattle.session_run.specs.Acts.{Leaves, is_own_on}
use Rattle.std.proofs.Common.{sym, ◌∷◌, [], codes, subst, false}
use Rattle.session_run.specs.Heard.{Heard, Broke}
use Rattle.session_lines.specs.Transcript.{note}
use Rattle.session_lines.proofs.Answering.{acts_none}
use Rattle.session_run.proofs.Long.{answer_long, long_quiet}
use Rattle.session_run.proofs.Replying.{broke_plain, heard_plain, hears_err}
use Rattle.session_run.proofs.hearing.finish.Goals as goal
use Rattle.session_run.proofs.hearing.finish.Goals.{then-line+in_ok-tell, else-line+in_ok-answer}

pub returns-in_err-tell-clause-hears : goal.returns-in_err-tell-clause-hears
returns-in_err-tell-clause-hears g c = λ game s full p kept.
    let w = g.W.Write.contents c.args.writer.now in
    let w' = g.W.Write.contents c.tell.new.writer in
    let l = g.F.Files.log c.args.files.now in
    hears_err game w w' s (Leaves game s c.args.session.now l l) (full ∷ []) c.from_residual.result
    c.from_residual.ensures.0
    (broke_plain game w w' s c.args.session.now l l full false
    (record { reply = note (codes "[Line refused.]"); standing = s }) []
    (answer_long game s full (kept.long c.if-line.true)) p (long_quiet game s full (kept.long c.if-line.true))
    (acts_none (is_own_on game) l) c.in_err-tell.ensures)

pub returns-in_err-answer-clause-hears : goal.returns-in_err-answer-clause-hears
returns-in_err-answer-clause-hears g c = λ game s full p kept.
    let w = g.W.Write.contents c.args.writer.now in
    let w' = g.W.Write.contents c.answer.new.writer in
    let l = g.F.Files.log c.args.files.now in
    let l' = g.F.Files.log c.answer.new.files in
    hears_err game w w' s (Leaves game s c.answer.new.session l l') (full ∷ [])
    c.from_residual-in_err-answer.result c.from_residual-in_err-answer.ensures.0
    (subst (λ x. Broke game w w' s (Leaves game s c.answer.new.session l l') (x ∷ []))
    (kept.short c.if-line.false) (c.in_err-answer.ensures game s p))

pub returns-clause-hears : goal.returns-clause-hears
returns-clause-hears g c = λ game s full p kept.
    let w = g.W.Write.contents c.args.writer.now in
    let l = g.F.Files.log c.args.files.now in
    let now = c.if-line in
    elim c.if-line.branch [
      | then-line+in_ok-tell v ↦
          subst (λ x. Heard game w (g.W.Write.contents x) s
          (Leaves game s now.session l (g.F.Files.log now.files)) (full ∷ [])) (sym v.writer-is)
          (subst (λ x. Heard game w (g.W.Write.contents v.tell.new.writer) s
          (Leaves game s x l (g.F.Files.log now.files)) (full ∷ [])) (sym v.session-is)
          (subst (λ x. Heard game w (g.W.Write.contents v.tell.new.writer) s
          (Leaves game s c.args.session.now l (g.F.Files.log x)) (full ∷ [])) (sym v.files-is)
          (heard_plain game w (g.W.Write.contents v.tell.new.writer) s c.args.session.now l l full
          false (record { reply = note (codes "[Line refused.]"); standing = s }) []
          (answer_long game s full (kept.long v.if-line.true)) p (long_quiet game s full (kept.long v.if-line.true))
          (acts_none (is_own_on game) l) v.in_ok-tell.ensures)))
      | else-line+in_ok-answer v ↦
          subst (λ x. Heard game w (g.W.Write.contents x) s
          (Leaves game s now.session l (g.F.Files.log now.files)) (full ∷ [])) (sym v.writer-is)
          (subst (λ x. Heard game w (g.W.Write.contents v.answer.new.writer) s
          (Leaves game s x l (g.F.Files.log now.files)) (full ∷ [])) (sym v.session-is)
          (subst (λ x. Heard game w (g.W.Write.contents v.answer.new.writer) s
          (Leaves game s v.answer.new.session l (g.F.Files.log x)) (full ∷ [])) (sym v.files-is)
          (subst (λ x. Heard game w (g.W.Write.contents v.answer.new.writer) s
          (Leaves game s v.answer.new.session l (g.F.Files.log v.answer.new.files)) (x ∷ []))
          (kept.short v.if-line.false)
          (v.in_ok-answer.ensures game s p))))
    ]
