use Rattle.std.proofs.Common.{ap, sym}
use Rattle.zcore.specs.Parts.{branch_on}
use Rattle.zcore.specs.Execution.{check_argument_count}
use Rattle.machine_frames.specs.States.{state_of}
use Rattle.machine_frames.proofs.Steps.{went_as}
use Rattle.machine_opcodes.proofs.jumps.check_argument_count.Goals as goal

pub returns : goal.returns
unfolding check_argument_count
returns c = went_as _ _
    (λ t. ap (λ b. branch_on c.args.here c.args.after c.args.branch b (state_of c.args.store.now.store t))
    (sym c.has_argument-holds.ensures)) c.branch_on.ensures
