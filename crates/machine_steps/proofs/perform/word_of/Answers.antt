use Rattle.std.proofs.Common.{◌≡◌, ◌+◌, ◌-◌, arith, refl}
use Rattle.zcore.specs.Execution.{perform}
use Rattle.machine_steps.proofs.perform.word_of.Goals as goal

pub returns-in-Or-clause-some : goal.returns-in-Or-clause-some
unfolding perform
returns-in-Or-clause-some c = λ here after into branch. rw c.in-Or.is refl

pub returns-in-And-clause-some : goal.returns-in-And-clause-some
unfolding perform
returns-in-And-clause-some c = λ here after into branch. rw c.in-And.is refl

pub returns-in-Add-clause-some : goal.returns-in-Add-clause-some
unfolding perform
returns-in-Add-clause-some c = λ here after into branch. rw c.in-Add.is refl

pub returns-in-Mul-clause-some : goal.returns-in-Mul-clause-some
unfolding perform
returns-in-Mul-clause-some c = λ here after into branch. rw c.in-Mul.is refl

pub returns-in-Sub-clause-some : goal.returns-in-Sub-clause-some
unfolding perform
returns-in-Sub-clause-some c =
    let e : c.args.x + 65536 - c.args.y ≡ c.args.x + (65536 - c.args.y) = omega (arith, c.ranges.y) in
    λ here after into branch. rw (c.in-Sub.is, e) refl
