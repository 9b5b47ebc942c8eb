use Rattle.machine_picture.specs.Represented.{styles_of}
use Rattle.machine_styling.proofs.Changing.{made_choose, made_move, made_none, made_restart, made_wait}
use Rattle.machine_styling.proofs.restyling.apply.Goals as goal

pub returns-in-None : goal.returns-in-None
returns-in-None c operation here s h =
    made_none operation here s c.args.to c.args.text.now (styles_of c.args.styles.now) (rw c.in-None.is at h)

pub returns-in-Wait : goal.returns-in-Wait
returns-in-Wait c operation here s h =
    made_wait operation here s c.args.to c.args.text.now (styles_of c.args.styles.now) _ (rw c.in-Wait.is at h)

pub returns-in-Restart : goal.returns-in-Restart
returns-in-Restart c operation here s h =
    made_restart operation here s c.args.to c.args.text.now (styles_of c.args.styles.now) (styles_of c.restart.new.self)
    c.restart.ensures (rw c.in-Restart.is at h)

pub returns-in-Choose : goal.returns-in-Choose
returns-in-Choose c operation here s h =
    made_choose operation here s c.args.to c.args.text.now (styles_of c.args.styles.now) (styles_of c.choose.new.self) _
    c.choose.ensures (rw c.in-Choose.is at h)

pub returns-in-Move : goal.returns-in-Move
returns-in-Move c operation here s h =
    made_move operation here s c.args.to c.args.text.now (styles_of c.args.styles.now) (styles_of c.move_on.new.self) _
    c.move_on.ensures (rw c.in-Move.is at h)
