use Rattle.std.proofs.Common.{refl}
use Rattle.machine_standard_windows.specs.TurnState.{place}
use Rattle.machine_picture.specs.Represented.{styles_of}
use Rattle.machine_styling.proofs.Stepping.{restyles_goes, restyles_stops}
use Rattle.machine_styling.proofs.restyling.restyle.Goals as goal

pub returns-in-Ok : goal.returns-in-Ok
returns-in-Ok c story was next s before long stays =
    restyles_goes c.go_on.result c.args.done c.in-Ok.field-0 story (place was next) s c.args.turn.now c.args.text.now
    (styles_of c.args.styles.now) (styles_of c.go_on.new.styles) c.in-Ok.is
    (c.go_on.ensures story (place was next) (place c.args.turn.now c.in-Ok.field-0) s refl before)

pub returns-in-Err-Stop : goal.returns-in-Err-Stop
returns-in-Err-Stop c story was next s before long stays =
    restyles_stops c.stop.result c.args.done c.in-Err-Stop.field-0 c.in-Err-Stop.place story was c.args.turn.now next s
    c.args.text.now (styles_of c.args.styles.now) (styles_of c.stop.new.styles) c.args.before.now c.in-Err-Stop.is
    (rw c.in-Err-Stop.is at c.in-Err-Stop.field-0-is) stays before
    (λ known. c.stop.ensures story next s c.args.text.now refl known long)
