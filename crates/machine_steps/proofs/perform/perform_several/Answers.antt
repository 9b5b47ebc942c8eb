use Rattle.std.proofs.Common.{inl, inr, sym}
use Rattle.zcore.specs.Execution.{perform}
use Rattle.machine_frames.proofs.Steps.{told_went}
use Rattle.machine_steps.proofs.Performing.{others}
use Rattle.machine_steps.proofs.perform.perform_several.Goals as goal

pub returns-in-CallVs-clause-told : goal.returns-in-CallVs-clause-told
unfolding perform
returns-in-CallVs-clause-told c = elim c.in-CallVs.is [
  | inl e ↦ rw (e, sym (others c.args.values.now)) (told_went _ _ c.call_packed.ensures)
  | inr e ↦ rw
      (e, sym (others c.args.values.now)) (told_went _ _ c.call_packed.ensures)
]

pub returns-in-CallVn-clause-told : goal.returns-in-CallVn-clause-told
unfolding perform
returns-in-CallVn-clause-told c = elim c.in-CallVn.is [
  | inl e ↦ rw (e, sym (others c.args.values.now)) (told_went _ _ c.call_packed-in-CallVn.ensures)
  | inr e ↦ rw
      (e, sym (others c.args.values.now)) (told_went _ _ c.call_packed-in-CallVn.ensures)
]

pub returns-in-StoreByte-clause-told : goal.returns-in-StoreByte-clause-told
unfolding perform
returns-in-StoreByte-clause-told c = rw c.in-StoreByte.is (told_went _ _ c.store_byte.ensures)

pub returns-in-Read-clause-told : goal.returns-in-Read-clause-told
unfolding perform
returns-in-Read-clause-told c = rw c.in-Read.is (told_went _ _ c.read.ensures)

pub returns-in-PrintCharacter-clause-told : goal.returns-in-PrintCharacter-clause-told
unfolding perform
returns-in-PrintCharacter-clause-told c = rw c.in-PrintCharacter.is (c.print_character.ensures.told)

pub returns-in-PrintNumber-clause-told : goal.returns-in-PrintNumber-clause-told
unfolding perform
returns-in-PrintNumber-clause-told c = rw c.in-PrintNumber.is (c.print_number.ensures.told)

pub returns-in-Push-clause-told : goal.returns-in-Push-clause-told
unfolding perform
returns-in-Push-clause-told c = rw c.in-Push.is (told_went _ _ c.push_word.ensures)

pub returns-in-Pull-clause-told : goal.returns-in-Pull-clause-told
unfolding perform
returns-in-Pull-clause-told c = rw c.in-Pull.is (told_went _ _ c.pull.ensures)

pub returns-in-Not-clause-told : goal.returns-in-Not-clause-told
unfolding perform
returns-in-Not-clause-told c = rw c.in-Not.is (told_went _ _ c.give_result.ensures)

pub returns-in-StoreWord-clause-told : goal.returns-in-StoreWord-clause-told
unfolding perform
returns-in-StoreWord-clause-told c = rw c.in-StoreWord.is (told_went _ _ c.store_word.ensures)

pub returns-in-CheckArgumentCount-clause-told : goal.returns-in-CheckArgumentCount-clause-told
unfolding perform
returns-in-CheckArgumentCount-clause-told c = rw c.in-CheckArgumentCount.is
    (told_went _ _ c.check_argument_count.ensures)

pub returns-in-PutProperty-clause-told : goal.returns-in-PutProperty-clause-told
unfolding perform
returns-in-PutProperty-clause-told c = rw c.in-PutProperty.is (told_went _ _ c.put_property.ensures)
