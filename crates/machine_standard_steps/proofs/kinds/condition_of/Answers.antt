use Rattle.std.proofs.Common.{refl}
use Rattle.zcore_standard.specs.Performing.{perform_keeping}
use Rattle.zcore_standard.specs.Flow.{verify}
use Rattle.machine_standard_steps.proofs.kinds.condition_of.Goals as goal

pub returns-in-Verify-clause-some : goal.returns-in-Verify-clause-some
unfolding perform_keeping verify
returns-in-Verify-clause-some c = λ values here after into branch.
    rw (c.in-Verify.is, c.is_sum_right.ensures) refl

pub returns-in-Piracy-clause-some : goal.returns-in-Piracy-clause-some
unfolding perform_keeping
returns-in-Piracy-clause-some c = λ values here after into branch. rw c.in-Piracy.is refl
