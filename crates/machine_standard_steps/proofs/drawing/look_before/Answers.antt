use Rattle.machine_picture.specs.Drawing.{picture_of}
use Rattle.machine_picture.specs.Picture.{is_drawing, looks, with_text}
use Rattle.machine_standard_windows.specs.TurnState.{place}
use Rattle.machine_standard_steps.proofs.Redrawing.{looked_not, looked_now}
use Rattle.machine_standard_steps.proofs.drawing.look_before.Goals as goal

pub returns-then-not-looks-clause-picture : goal.returns-then-not-looks-clause-picture
returns-then-not-looks-clause-picture c = λ next. looked_not c.looks.result (looks c.args.operation)
    (picture_of c.args.picture.now)
    (with_text (is_drawing (place c.args.turn.now next)) c.args.text.now (picture_of c.args.picture.now))
    c.looks.ensures c.if-not-looks.true

pub returns-in-Ok-clause-picture : goal.returns-in-Ok-clause-picture
returns-in-Ok-clause-picture c = λ next. looked_now c.looks.result (looks c.args.operation) c.is_drawing.result
    (is_drawing (place c.args.turn.now next)) c.args.text.now (picture_of c.args.picture.now)
    (picture_of c.look.new.self) c.looks.ensures c.if-not-looks.false (c.is_drawing.ensures next) c.in-Ok.ensures
