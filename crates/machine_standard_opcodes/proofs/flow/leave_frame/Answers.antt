use Rattle.machine_standard_opcodes.proofs.Returning.{frame_left}
use Rattle.machine_standard_opcodes.proofs.flow.leave_frame.Goals as goal

pub returns : goal.returns
returns c = frame_left _ _ c.args.number c.long-base.result c.requires.sound c.requires.some c.requires.called
    c.long-base.ensures c.in_ok-put_all.ensures.cells c.put_all.ensures.fixed c.in_ok-put_all.ensures.beginning
