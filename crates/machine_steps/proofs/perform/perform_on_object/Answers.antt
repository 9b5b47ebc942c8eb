use Rattle.zcore.specs.Execution.{perform}
use Rattle.machine_steps.proofs.perform.perform_on_object.Goals as goal

pub returns-in-JumpIfIn : goal.returns-in-JumpIfIn
unfolding perform
returns-in-JumpIfIn c = rw c.in-JumpIfIn.is c.jump_if_in.ensures

pub returns-in-TestAttribute : goal.returns-in-TestAttribute
unfolding perform
returns-in-TestAttribute c = rw c.in-TestAttribute.is c.test_attribute.ensures

pub returns-in-SetAttribute : goal.returns-in-SetAttribute
unfolding perform
returns-in-SetAttribute c = rw c.in-SetAttribute.is c.set_attribute.ensures

pub returns-in-ClearAttribute : goal.returns-in-ClearAttribute
unfolding perform
returns-in-ClearAttribute c = rw c.in-ClearAttribute.is c.clear_attribute.ensures

pub returns-in-InsertObject : goal.returns-in-InsertObject
unfolding perform
returns-in-InsertObject c = rw c.in-InsertObject.is c.insert_object.ensures

pub returns-in-GetProperty : goal.returns-in-GetProperty
unfolding perform
returns-in-GetProperty c = rw c.in-GetProperty.is c.get_property.ensures

pub returns-in-GetPropertyAddress : goal.returns-in-GetPropertyAddress
unfolding perform
returns-in-GetPropertyAddress c = rw c.in-GetPropertyAddress.is c.get_property_address.ensures

pub returns-in-GetNextProperty : goal.returns-in-GetNextProperty
unfolding perform
returns-in-GetNextProperty c = rw c.in-GetNextProperty.is c.get_next_property.ensures
