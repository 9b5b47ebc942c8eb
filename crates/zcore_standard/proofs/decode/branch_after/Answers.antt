use Rattle.std.proofs.Common.{refl, sym}
use Rattle.zcore_standard.specs.Instruction.{branch_after}
use Rattle.machine_decoding.proofs.Decoding.{seen_err}
use Rattle.zcore_standard.proofs.decode.branch_after.Goals as goal

pub returns-in_err-branch-clause-branch : goal.returns-in_err-branch-clause-branch
unfolding branch_after
returns-in_err-branch-clause-branch c = seen_err _ _ _ _ c.from_residual.ensures.1
    (rw (c.if-branches.true, sym c.in_err-branch.ensures.branch) refl)

pub returns-in_ok-branch-clause-branch : goal.returns-in_ok-branch-clause-branch
unfolding branch_after
returns-in_ok-branch-clause-branch c = rw (c.if-branches.true, sym c.in_ok-branch.ensures.branch) refl

pub returns-else-branches-clause-branch : goal.returns-else-branches-clause-branch
unfolding branch_after
returns-else-branches-clause-branch c = rw (c.if-branches.false) refl
