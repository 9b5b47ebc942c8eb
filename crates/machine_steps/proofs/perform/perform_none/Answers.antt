use Rattle.std.proofs.Common.{refl}
use Rattle.zcore.specs.Execution.{perform}
use Rattle.machine_frames.proofs.Steps.{told_went, told_halt, told_still}
use Rattle.machine_steps.proofs.perform.perform_none.Goals as goal

pub returns-in-ReturnTrue-clause-told : goal.returns-in-ReturnTrue-clause-told
unfolding perform
returns-in-ReturnTrue-clause-told c = rw c.in-ReturnTrue.is (told_went _ _ c.give_back.ensures)

pub returns-in-ReturnFalse-clause-told : goal.returns-in-ReturnFalse-clause-told
unfolding perform
returns-in-ReturnFalse-clause-told c = rw c.in-ReturnFalse.is (told_went _ _ c.give_back-in-ReturnFalse.ensures)

pub returns-in-Print-clause-told : goal.returns-in-Print-clause-told
unfolding perform
returns-in-Print-clause-told c = rw c.in-Print.is (c.print_inline.ensures.told)

pub returns-in-PrintReturn-clause-told : goal.returns-in-PrintReturn-clause-told
unfolding perform
returns-in-PrintReturn-clause-told c = rw c.in-PrintReturn.is (c.print_return.ensures.told)

pub returns-in-ReturnPopped-clause-told : goal.returns-in-ReturnPopped-clause-told
unfolding perform
returns-in-ReturnPopped-clause-told c = rw c.in-ReturnPopped.is (told_went _ _ c.return_popped.ensures)

pub returns-in-Quit-clause-told : goal.returns-in-Quit-clause-told
unfolding perform
returns-in-Quit-clause-told c = rw c.in-Quit.is (told_halt _ _ _ c.requires.store.sound refl)

pub returns-in-NewLine-clause-told : goal.returns-in-NewLine-clause-told
unfolding perform
returns-in-NewLine-clause-told c = rw c.in-NewLine.is (c.print_characters.ensures.told)

pub returns-in-DoNothing-clause-told : goal.returns-in-DoNothing-clause-told
unfolding perform
returns-in-DoNothing-clause-told c = rw c.in-DoNothing.is (told_still _ _ _ c.requires.store.sound refl)
