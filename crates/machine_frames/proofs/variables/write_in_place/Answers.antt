use Rattle.std.proofs.Common.{arith}
use Rattle.machine_frames.proofs.InPlace.{writes_in_place}
use Rattle.machine_frames.proofs.variables.write_in_place.Goals as goal

pub returns-in_default : goal.returns-in_default
returns-in_default c = rw (writes_in_place c.args.variable c.args.word (omega arith)) c.write_variable.ensures
