use Rattle.machine_frames.proofs.Kept.{standard_state_kept}
use Rattle.machine_frames.proofs.cells.write_standard_state.Goals as goal

pub returns-clause-kept : goal.returns-clause-kept
returns-clause-kept c = standard_state_kept _ _ c.args.kept c.requires c.in_ok-put_all.ensures.cells c.put_all.ensures.fixed
    c.in_ok-put_all.ensures.beginning
