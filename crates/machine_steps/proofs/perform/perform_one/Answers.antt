use Rattle.zcore.specs.Execution.{perform}
use Rattle.machine_frames.proofs.Steps.{told_went}
use Rattle.machine_steps.proofs.perform.perform_one.Goals as goal

pub returns-in-JumpIfZero-clause-told : goal.returns-in-JumpIfZero-clause-told
unfolding perform
returns-in-JumpIfZero-clause-told c = rw c.in-JumpIfZero.is (told_went _ _ c.branch_on.ensures)

pub returns-in-Increment-clause-told : goal.returns-in-Increment-clause-told
unfolding perform
returns-in-Increment-clause-told c = rw c.in-Increment.is (told_went _ _ c.increment.ensures)

pub returns-in-Decrement-clause-told : goal.returns-in-Decrement-clause-told
unfolding perform
returns-in-Decrement-clause-told c = rw c.in-Decrement.is (told_went _ _ c.decrement.ensures)

pub returns-in-Return-clause-told : goal.returns-in-Return-clause-told
unfolding perform
returns-in-Return-clause-told c = rw c.in-Return.is (told_went _ _ c.give_back.ensures)

pub returns-in-Jump-clause-told : goal.returns-in-Jump-clause-told
unfolding perform
returns-in-Jump-clause-told c = rw c.in-Jump.is (told_went _ _ c.jump.ensures)

pub returns-in-PrintPacked-clause-told : goal.returns-in-PrintPacked-clause-told
unfolding perform
returns-in-PrintPacked-clause-told c = rw c.in-PrintPacked.is (c.print_packed.ensures.told)

pub returns-in-Load-clause-told : goal.returns-in-Load-clause-told
unfolding perform
returns-in-Load-clause-told c = rw c.in-Load.is (told_went _ _ c.load.ensures)

pub returns-in-Call1n-clause-told : goal.returns-in-Call1n-clause-told
unfolding perform
returns-in-Call1n-clause-told c = rw c.in-Call1n.is (told_went _ _ c.call_packed-in-Call1n.ensures)

pub returns-in-PrintAddress-clause-told : goal.returns-in-PrintAddress-clause-told
unfolding perform
returns-in-PrintAddress-clause-told c = rw c.in-PrintAddress.is (c.print_address.ensures.told)

pub returns-in-Call1s-clause-told : goal.returns-in-Call1s-clause-told
unfolding perform
returns-in-Call1s-clause-told c = rw c.in-Call1s.is (told_went _ _ c.call_packed.ensures)

pub returns-in-GetSibling-clause-told : goal.returns-in-GetSibling-clause-told
unfolding perform
returns-in-GetSibling-clause-told c = rw c.in-GetSibling.is (told_went _ _ c.get_sibling.ensures)

pub returns-in-GetChild-clause-told : goal.returns-in-GetChild-clause-told
unfolding perform
returns-in-GetChild-clause-told c = rw c.in-GetChild.is (told_went _ _ c.get_child.ensures)

pub returns-in-GetParent-clause-told : goal.returns-in-GetParent-clause-told
unfolding perform
returns-in-GetParent-clause-told c = rw c.in-GetParent.is (told_went _ _ c.get_parent.ensures)

pub returns-in-GetPropertyLength-clause-told : goal.returns-in-GetPropertyLength-clause-told
unfolding perform
returns-in-GetPropertyLength-clause-told c =
    rw c.in-GetPropertyLength.is (told_went _ _ c.get_property_length.ensures)

pub returns-in-RemoveObject-clause-told : goal.returns-in-RemoveObject-clause-told
unfolding perform
returns-in-RemoveObject-clause-told c = rw c.in-RemoveObject.is (told_went _ _ c.remove_object.ensures)

pub returns-in-PrintObject-clause-told : goal.returns-in-PrintObject-clause-told
unfolding perform
returns-in-PrintObject-clause-told c = rw c.in-PrintObject.is (c.print_object.ensures.told)
