use Rattle.machine_picture.specs.Picture.{operation_at}
use Rattle.machine_standard_windows.specs.TurnState.{place}
use Rattle.machine_picture.specs.Represented.{styles_of}
use Rattle.machine_styling.proofs.Changing.{cannot_wait, not_waiting, waits_elsewhere}
use Rattle.machine_styling.proofs.Stepping.{ends_so, waits_so}
use Rattle.machine_styling.proofs.restyling.stop.Goals as goal

pub wait-requires-clause-kept : goal.wait-requires-clause-kept
wait-requires-clause-kept c = (rw c.in-Wait.is at c.requires).0

pub wait-requires-clause-within : goal.wait-requires-clause-within
wait-requires-clause-within c = (rw c.in-Wait.is at c.requires).1

-- it waits
pub returns-in-Waiting : goal.returns-in-Waiting
returns-in-Waiting c story next s text e known long =
    rw c.in-Waiting.is
    (waits_so c.wait.result story (place c.args.turn.now next) s text c.args.long (styles_of c.args.styles.now)
    (styles_of c.wait.new.self) _ e long (rw c.in-Wait.is at known.change) c.wait.ensures)

-- or it could have waited
pub returns-in_default-end : goal.returns-in_default-end
returns-in_default-end c story next s text e known long =
    ends_so c.stop_at_once.result story (place c.args.turn.now next) s c.args.end text c.args.long
    (styles_of c.args.styles.now) (styles_of c.stop_at_once.new.styles) c.args.before.now e known
    (waits_elsewhere (operation_at story s.memory next.program_counter) c.args.end
    (not_waiting c.args.end c.in_default-end.not-Waiting))
    (c.stop_at_once.ensures next text e)

-- or it cannot wait
pub returns-in_default : goal.returns-in_default
returns-in_default c story next s text e known long =
    ends_so c.stop_at_once-in_default.result story (place c.args.turn.now next) s c.args.end text c.args.long
    (styles_of c.args.styles.now) (styles_of c.stop_at_once-in_default.new.styles) c.args.before.now e known
    (cannot_wait (operation_at story s.memory next.program_counter) (place c.args.turn.now next) s c.args.before.now.change
    c.args.end c.in_default.not-Wait known.change)
    (c.stop_at_once-in_default.ensures next text e)
