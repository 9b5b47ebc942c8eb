use Rattle.machine_picture.specs.Picture.{operation_at}
use Rattle.machine_picture.specs.Represented.{styles_of}
use Rattle.machine_styling.proofs.Stepping.{goes_on_so}
use Rattle.machine_styling.proofs.restyling.go_on.Goals as goal

pub returns : goal.returns
returns c story here next s is known =
    goes_on_so c.become_as_long.result story here next s c.args.to c.args.text.now (styles_of c.args.styles.now)
    (styles_of c.apply.new.styles) (styles_of c.become_as_long.new.self) c.args.before.now is known
    (c.apply.ensures (operation_at story s.memory here.next.program_counter) here s known.change)
    c.become_as_long.ensures
