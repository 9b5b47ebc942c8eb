use Rattle.std.proofs.Common.{refl, sym, subst, ap}
use Rattle.session_run.proofs.Replying.{absent}
use Rattle.session_lines.specs.Standing.{undo_of}
use Rattle.play_json.specs.Lines.{Lines}
use Rattle.play_json.specs.Said.{Stands, held}
use Rattle.play_json.proofs.Stands.{stands_back, stands_same, undone_none}
use Rattle.play_json.proofs.returning.step_back.Goals as goal

pub returns-then-undo-clause-found : goal.returns-then-undo-clause-found
returns-then-undo-clause-found c = λ game s p. c.if-undo.ensures.found game s p.session

pub returns-then-undo-clause-stands : goal.returns-then-undo-clause-stands
returns-then-undo-clause-stands c = λ game s p.
    subst (λ x. Stands game (undo_of s) (held c.undo.new.self x)) (sym c.shorten.ensures)
    (stands_back game s c.args.session.now c.undo.new.self c.args.lines.now p
    ((c.if-undo.ensures.found game s p.session).0 refl) (c.undo.ensures.undone game s p.session))

pub returns-then-undo-clause-marks : goal.returns-then-undo-clause-marks
returns-then-undo-clause-marks c = ap (λ (x : Lines). x.marks) c.shorten.ensures

pub returns-else-undo-clause-found : goal.returns-else-undo-clause-found
returns-else-undo-clause-found c = λ game s p. c.if-undo.ensures.found game s p.session

pub returns-else-undo-clause-stands : goal.returns-else-undo-clause-stands
returns-else-undo-clause-stands c = λ game s p.
    stands_same game s (undo_of s) c.args.session.now c.undo.new.self c.args.lines.now p
    (undone_none s (absent _ ((c.if-undo.ensures.found game s p.session).1))) (c.undo.ensures.undone game s p.session)
