use Rattle.machine_frames.proofs.Kept.{counter_kept}
use Rattle.machine_frames.proofs.cells.set_program_counter.Goals as goal

pub returns-clause-kept : goal.returns-clause-kept
returns-clause-kept c = counter_kept _ _ c.args.program_counter c.requires c.in_ok-put_long.ensures.cells
    c.put_long.ensures.fixed c.in_ok-put_long.ensures.beginning
