use Rattle.std.proofs.Common.{arith}
use Rattle.machine_frames.proofs.Locals.{reads_stack}
use Rattle.machine_frames.proofs.InPlace.{reads_in_place}
use Rattle.machine_frames.proofs.variables.read_variable.Goals as goal

pub returns-in-0 : goal.returns-in-0
returns-in-0 c = rw (reads_stack c.args.variable c.in-0.is) c.pop.ensures

pub returns-in_default : goal.returns-in_default
returns-in_default c = rw (reads_in_place c.args.variable (omega arith)) c.read_in_place.ensures
