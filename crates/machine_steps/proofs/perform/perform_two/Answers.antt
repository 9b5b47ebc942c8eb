use Rattle.std.proofs.Common.{ap}
use Rattle.zcore.specs.State.{State, Out}
use Rattle.zcore.specs.Execution.{perform}
use Rattle.zcore.specs.declared.next.Next.{Next}
use Rattle.machine_frames.specs.States.{state_of}
use Rattle.machine_frames.proofs.Steps.{went_as}
use Rattle.machine_steps.proofs.perform.perform_two.Goals as goal

pub returns-in-Some : goal.returns-in-Some
unfolding perform
returns-in-Some c = went_as _ _
    (λ t. ap (λ (f : State → Out Next). f (state_of c.args.store.now.store t))
    (c.in-Some.ensures.some c.args.here c.args.ending.after c.args.ending.result c.args.ending.branch))
    c.give_result.ensures

pub returns-in-Some-condition_of : goal.returns-in-Some-condition_of
unfolding perform
returns-in-Some-condition_of c = went_as _ _
    (λ t. ap (λ (f : State → Out Next). f (state_of c.args.store.now.store t))
    (c.in-Some-condition_of.ensures.some c.args.here c.args.ending.after c.args.ending.result c.args.ending.branch))
    c.branch_on.ensures

pub returns-in-Store : goal.returns-in-Store
unfolding perform
returns-in-Store c = rw c.in-Store.is c.store_variable.ensures

pub returns-in-Div : goal.returns-in-Div
unfolding perform
returns-in-Div c = rw c.in-Div.is c.divide.ensures

pub returns-in-Mod : goal.returns-in-Mod
unfolding perform
returns-in-Mod c = rw c.in-Mod.is c.modulo.ensures

pub returns-in-DecrementCheck : goal.returns-in-DecrementCheck
unfolding perform
returns-in-DecrementCheck c = rw c.in-DecrementCheck.is c.decrement_check.ensures

pub returns-in-IncrementCheck : goal.returns-in-IncrementCheck
unfolding perform
returns-in-IncrementCheck c = rw c.in-IncrementCheck.is c.increment_check.ensures

pub returns-in-LoadWord : goal.returns-in-LoadWord
unfolding perform
returns-in-LoadWord c = rw c.in-LoadWord.is c.load_word.ensures

pub returns-in-LoadByte : goal.returns-in-LoadByte
unfolding perform
returns-in-LoadByte c = rw c.in-LoadByte.is c.load_byte.ensures

pub returns-in-Call2s : goal.returns-in-Call2s
unfolding perform
returns-in-Call2s c = rw c.in-Call2s.is c.call_packed.ensures

pub returns-in-Call2n : goal.returns-in-Call2n
unfolding perform
returns-in-Call2n c = rw c.in-Call2n.is c.call_packed-in-Call2n.ensures
