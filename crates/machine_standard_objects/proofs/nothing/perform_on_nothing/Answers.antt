use Rattle.std.proofs.Common.{inl, inr, sym}
use Rattle.zcore_standard.specs.Nothing.{perform_on_nothing}
use Rattle.machine_standard_objects.proofs.Performing.{nothing_else}
use Rattle.machine_standard_objects.proofs.nothing.perform_on_nothing.Goals as goal

pub returns-in-JumpIfIn : goal.returns-in-JumpIfIn
unfolding perform_on_nothing
returns-in-JumpIfIn c = rw (c.in-JumpIfIn.is, sym c.value_of-holds.ensures) c.branch_on.ensures

pub returns-in-TestAttribute : goal.returns-in-TestAttribute
unfolding perform_on_nothing
returns-in-TestAttribute c = rw c.in-TestAttribute.is c.branch_on-in-TestAttribute.ensures

pub returns-in-InsertObject : goal.returns-in-InsertObject
unfolding perform_on_nothing
returns-in-InsertObject c = rw (c.in-InsertObject.is, sym c.value_of.ensures) c.insert_nothing.ensures

pub returns-in-GetProperty : goal.returns-in-GetProperty
unfolding perform_on_nothing
returns-in-GetProperty c = elim c.in-GetProperty.is [
  | inl e ↦ rw e c.give_result.ensures
  | inr (inl e) ↦ rw e c.give_result.ensures
  | inr (inr (inl e)) ↦ rw e c.give_result.ensures
  | inr (inr (inr e)) ↦ rw e c.give_result.ensures
]

pub returns-in-GetSibling : goal.returns-in-GetSibling
unfolding perform_on_nothing
returns-in-GetSibling c = elim c.in-GetSibling.is [
  | inl e ↦ rw e c.give_nothing.ensures
  | inr e ↦ rw e c.give_nothing.ensures
]

pub returns-in_default : goal.returns-in_default
returns-in_default c = nothing_else _ c.args.operation c.args.here c.args.ending.after c.args.ending.result
    c.args.ending.branch c.args.values.now c.requires.store.sound c.in_default.not-JumpIfIn
    c.in_default.not-TestAttribute c.in_default.not-InsertObject c.in_default.not-GetProperty
    c.in_default.not-GetPropertyAddress c.in_default.not-GetNextProperty c.in_default.not-GetParent
    c.in_default.not-GetSibling c.in_default.not-GetChild
