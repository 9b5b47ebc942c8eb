use Rattle.std.proofs.Common.{refl, sym, subst, ap, ◌∙◌}
use Rattle.session_run.proofs.Replying.{absent}
use Rattle.session_lines.specs.Standing.{redo_of}
use Rattle.play_json.specs.Lines.{Lines}
use Rattle.play_json.specs.Said.{Stands, held}
use Rattle.play_json.proofs.Stands.{forward_marks, redone_none, stands_forward, stands_same}
use Rattle.play_json.proofs.returning.step_forward.Goals as goal

pub returns-in-Some-clause-stands : goal.returns-in-Some-clause-stands
returns-in-Some-clause-stands c = λ game s p.
    let v' = c.redo.follows.lender-at-none in
    subst (λ x. Stands game (redo_of s) (held v' x)) (sym c.lengthen.ensures)
    (stands_forward game s c.args.session.now v' c.args.lines.now p
    ((c.in-Some.ensures.found game s p.session).0 refl) (c.redo.follows.holds-at-none.stands game s p.session))

pub returns-in-Some-clause-marks : goal.returns-in-Some-clause-marks
returns-in-Some-clause-marks c = ap (λ (x : Lines). x.marks) c.lengthen.ensures ∙ forward_marks c.args.lines.now

pub returns-in-None-clause-stands : goal.returns-in-None-clause-stands
returns-in-None-clause-stands c = λ game s p.
    stands_same game s (redo_of s) c.args.session.now c.redo.follows.lender-at-none c.args.lines.now p
    (redone_none s (absent _ ((c.in-None.ensures.found game s p.session).1)))
    (c.redo.follows.holds-at-none.stands game s p.session)
