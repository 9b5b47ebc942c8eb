use Rattle.std.proofs.Common.{◌≡◌, ◌==◌, ℕ, Bool, true, false, if◌then◌else◌, List, [], ◌∷◌, length, ap, sym, subst}
use Rattle.std.proofs.lemmas.Bool.{eq-eqb, ne_eqb}
use Rattle.std.specs.Prelude.{codes}
use Rattle.session.specs.Asking.{told_waiting}
use Rattle.session_lines.specs.Transcript.{note}
use Rattle.session_lines.specs.Wrote.{WroteText}
use Rattle.session_lines.proofs.Telling.{wrote_both, wrote_first}
use Rattle.session_run.proofs.Replying.{wrote_err}
use Rattle.session_run.proofs.answering.put_status.Goals as goal

-- what is told of a line, by whether it is empty
told_by : (line : List ℕ) (b : Bool) → (length line == 0) ≡ b → told_waiting line
    ≡ (if b then note (codes "[No status line.]") else note line)
told_by line b e = ap (λ x. if x then note (codes "[No status line.]") else note line) e

pub returns-then-line-eq0 : goal.returns-then-line-eq0
returns-then-line-eq0 g c =
    subst (λ t. WroteText (g.W.Write.contents c.args.writer.now) (g.W.Write.contents c.tell.new.writer) t c.tell.result)
    (sym (told_by c.args.line.now true (eq-eqb _ 0 c.if-line-eq0.true)))
    c.tell.ensures

pub returns-in_err-put : goal.returns-in_err-put
returns-in_err-put g c =
    subst (λ t. WroteText (g.W.Write.contents c.args.writer.now) (g.W.Write.contents c.put.new.writer) t c.from_residual.result)
    (sym (told_by c.args.line.now false (ne_eqb _ 0 c.if-line-eq0.false)))
    (wrote_err _ _ (note c.args.line.now) c.from_residual.result c.from_residual.ensures.0
    (wrote_first (10 ∷ []) c.in_err-put.ensures))

pub returns : goal.returns
returns g c =
    subst (λ t. WroteText (g.W.Write.contents c.args.writer.now) (g.W.Write.contents c.tell-2.new.writer) t c.tell-2.result)
    (sym (told_by c.args.line.now false (ne_eqb _ 0 c.if-line-eq0.false)))
    (wrote_both (g.W.Write.contents c.args.writer.now) (g.W.Write.contents c.put.new.writer)
    (g.W.Write.contents c.tell-2.new.writer) c.args.line.now (10 ∷ []) c.tell-2.result c.in_ok-put.ensures
    c.tell-2.ensures)
