use Rattle.machine_frames.proofs.InPlace.{set_top_went, no_top_to_write}
use Rattle.machine_frames.proofs.stack.set_top.Goals as goal

pub returns-in_default : goal.returns-in_default
returns-in_default c = no_top_to_write _ c.args.word c.requires c.in_default.ensures.none

pub returns : goal.returns
returns c = set_top_went _ _ c.args.word c.in-Some.i c.requires c.in-Some.ensures.some.0 c.in-Some.ensures.some.1
    c.in_ok-put.ensures.cells c.put.ensures.fixed c.in_ok-put.ensures.beginning
