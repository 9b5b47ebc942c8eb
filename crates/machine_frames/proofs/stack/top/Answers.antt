use Rattle.machine_frames.proofs.InPlace.{top_went, no_top_to_read}
use Rattle.machine_frames.proofs.stack.top.Goals as goal

pub returns-in_default : goal.returns-in_default
returns-in_default c = no_top_to_read _ c.requires c.in_default.ensures.none

pub returns : goal.returns
returns c = top_went _ c.cell.result c.in-Some.i c.requires c.in-Some.ensures.some.0 c.in-Some.ensures.some.1
    c.cell.ensures
