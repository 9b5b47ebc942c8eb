use Rattle.std.proofs.Common.{refl, sym}
use Rattle.zcore.specs.Instruction.{branch}
use Rattle.machine_decoding.proofs.Decoding.{seen_err}
use Rattle.machine_decoding.proofs.decode.read_branch.Goals as goal

pub returns-in_err-branch-clause-branch : goal.returns-in_err-branch-clause-branch
unfolding branch
returns-in_err-branch-clause-branch c = seen_err _ _ _ _ c.from_residual.ensures.1
    (rw (sym c.if-has_branch.ensures, sym c.in_err-branch.ensures.branch) refl)

pub returns-in_ok-branch-clause-branch : goal.returns-in_ok-branch-clause-branch
unfolding branch
returns-in_ok-branch-clause-branch c = rw (sym c.if-has_branch.ensures, sym c.in_ok-branch.ensures.branch) refl

pub returns-else-has_branch-clause-branch : goal.returns-else-has_branch-clause-branch
unfolding branch
returns-else-has_branch-clause-branch c = rw (sym c.if-has_branch.ensures) refl
