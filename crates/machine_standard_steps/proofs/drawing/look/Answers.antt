use Rattle.std.proofs.Common.{◌≡◌, subst, sym}
use Rattle.std.specs.Prelude.{OnOk}
use Rattle.machine_picture.specs.Drawing.{picture_of}
use Rattle.machine_picture.specs.Picture.{before}
use Rattle.machine_standard_windows.specs.TurnState.{place}
use Rattle.machine_standard_steps.proofs.drawing.look.Goals as goal

pub returns-in-Some-clause-picture : goal.returns-in-Some-clause-picture
returns-in-Some-clause-picture c = λ next.
    subst (λ o. OnOk c.look_before.result (picture_of c.look_before.new.picture
    ≡ before o (place c.args.turn.now next) c.args.text.now (picture_of c.args.picture.now)))
    (sym c.in-Some.is) (c.look_before.ensures.picture next)
