use Rattle.std.proofs.Common.{refl}
use Rattle.zcore.specs.Parts.{branch_on, goes_on}
use Rattle.machine_opcodes.proofs.Targets.{branch_taken, branch_passed}
use Rattle.machine_frames.proofs.Steps.{went_still}
use Rattle.machine_opcodes.proofs.jumps.branch_on.Goals as goal

pub returns-in-None : goal.returns-in-None
unfolding branch_on
returns-in-None c = rw c.in-None.is (went_still _ _ c.requires.store.sound (λ t. refl))

pub returns-then-branch-holds : goal.returns-then-branch-holds
returns-then-branch-holds c = rw c.in-Some.is
    (branch_taken _ _ _ _ _ _ _ c.if-branch-holds.true c.take_branch.ensures)

pub returns-else-branch-holds : goal.returns-else-branch-holds
returns-else-branch-holds c = rw c.in-Some.is
    (branch_passed c.args.here c.args.after _ _ _ _ _ c.if-branch-holds.false
    (went_still _ (goes_on c.args.after c.args.here.fuel) c.requires.store.sound (λ t. refl)))
