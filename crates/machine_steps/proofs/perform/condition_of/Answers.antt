use Rattle.std.proofs.Common.{refl}
use Rattle.zcore.specs.Execution.{perform}
use Rattle.machine_steps.proofs.Performing.{any_one}
use Rattle.machine_steps.proofs.perform.condition_of.Goals as goal

pub returns-in-JumpIfEqual-clause-some : goal.returns-in-JumpIfEqual-clause-some
unfolding perform
returns-in-JumpIfEqual-clause-some c = λ here after into branch. rw (c.in-JumpIfEqual.is, any_one c.args.x c.args.y)
    refl

pub returns-in-JumpIfLess-clause-some : goal.returns-in-JumpIfLess-clause-some
unfolding perform
returns-in-JumpIfLess-clause-some c = λ here after into branch. rw (c.in-JumpIfLess.is, c.signed_less.ensures) refl

pub returns-in-JumpIfGreater-clause-some : goal.returns-in-JumpIfGreater-clause-some
unfolding perform
returns-in-JumpIfGreater-clause-some c = λ here after into branch. rw
    (c.in-JumpIfGreater.is, c.signed_less-in-JumpIfGreater.ensures) refl

pub returns-in-TestBits-clause-some : goal.returns-in-TestBits-clause-some
unfolding perform
returns-in-TestBits-clause-some c = λ here after into branch. rw c.in-TestBits.is refl
