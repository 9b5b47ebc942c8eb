use Rattle.std.proofs.Common.{refl}
use Rattle.zcore.specs.Parts.{test_branch}
use Rattle.machine_opcodes.proofs.Targets.{tests_taken, tests_passed}
use Rattle.machine_frames.proofs.Steps.{went_still}
use Rattle.machine_opcodes.proofs.jumps.test_branch.Goals as goal

pub returns-in-None : goal.returns-in-None
unfolding test_branch
returns-in-None c = rw c.in-None.is (went_still _ _ c.requires.sound (λ t. refl))

pub returns-then-branch-holds : goal.returns-then-branch-holds
returns-then-branch-holds c = rw c.in-Some.is
    (tests_passed c.args.after _ _ _ c.if-branch-holds.true c.requires.sound)

pub returns-else-branch-holds : goal.returns-else-branch-holds
returns-else-branch-holds c = rw c.in-Some.is (tests_taken _ _ _ _ _ c.if-branch-holds.false c.test_taken.ensures)
