use Rattle.std.proofs.Common.{sym}
use Rattle.zcore_versions.specs.Performing.{perform_other, perform_small}
use Rattle.machine_versions_steps.proofs.objects.perform_on_object.Goals as goal

pub returns-in-JumpIfIn : goal.returns-in-JumpIfIn
unfolding perform_other perform_small
returns-in-JumpIfIn c = λ story. rw (c.in-JumpIfIn.is, sym c.value_of-x.ensures, sym c.value_of-y.ensures) c.jump_if_in.ensures

pub returns-in-TestAttribute : goal.returns-in-TestAttribute
unfolding perform_other perform_small
returns-in-TestAttribute c = λ story. rw (c.in-TestAttribute.is, sym c.value_of-x.ensures, sym c.value_of-y.ensures) c.test_attribute.ensures

pub returns-in-SetAttribute : goal.returns-in-SetAttribute
unfolding perform_other perform_small
returns-in-SetAttribute c = λ story. rw (c.in-SetAttribute.is, sym c.value_of-x.ensures, sym c.value_of-y.ensures) c.set_attribute.ensures

pub returns-in-ClearAttribute : goal.returns-in-ClearAttribute
unfolding perform_other perform_small
returns-in-ClearAttribute c = λ story. rw (c.in-ClearAttribute.is, sym c.value_of-x.ensures, sym c.value_of-y.ensures) c.clear_attribute.ensures

pub returns-in-InsertObject : goal.returns-in-InsertObject
unfolding perform_other perform_small
returns-in-InsertObject c = λ story. rw (c.in-InsertObject.is, sym c.value_of-x.ensures, sym c.value_of-y.ensures) c.insert_object.ensures

pub returns-in-RemoveObject : goal.returns-in-RemoveObject
unfolding perform_other perform_small
returns-in-RemoveObject c = λ story. rw (c.in-RemoveObject.is, sym c.value_of-x.ensures) c.remove_object.ensures

pub returns-in-GetParent : goal.returns-in-GetParent
unfolding perform_other perform_small
returns-in-GetParent c = λ story. rw (c.in-GetParent.is, sym c.value_of-x.ensures) c.get_parent.ensures

pub returns-in-GetSibling : goal.returns-in-GetSibling
unfolding perform_other perform_small
returns-in-GetSibling c = λ story. rw (c.in-GetSibling.is, sym c.value_of-x.ensures) c.get_sibling.ensures

pub returns-in-GetChild : goal.returns-in-GetChild
unfolding perform_other perform_small
returns-in-GetChild c = λ story. rw (c.in-GetChild.is, sym c.value_of-x.ensures) c.get_child.ensures

pub returns-in-GetProperty : goal.returns-in-GetProperty
unfolding perform_other perform_small
returns-in-GetProperty c = λ story. rw (c.in-GetProperty.is, sym c.value_of-x.ensures, sym c.value_of-y.ensures) c.get_property.ensures

pub returns-in-GetPropertyAddress : goal.returns-in-GetPropertyAddress
unfolding perform_other perform_small
returns-in-GetPropertyAddress c = λ story. rw (c.in-GetPropertyAddress.is, sym c.value_of-x.ensures, sym c.value_of-y.ensures) c.get_property_address.ensures

pub returns-in-GetNextProperty : goal.returns-in-GetNextProperty
unfolding perform_other perform_small
returns-in-GetNextProperty c = λ story. rw (c.in-GetNextProperty.is, sym c.value_of-x.ensures, sym c.value_of-y.ensures) c.get_next_property.ensures

pub returns-in-GetPropertyLength : goal.returns-in-GetPropertyLength
unfolding perform_other perform_small
returns-in-GetPropertyLength c = λ story. rw (c.in-GetPropertyLength.is, sym c.value_of-x.ensures) c.get_property_length.ensures

pub returns-in-PutProperty : goal.returns-in-PutProperty
unfolding perform_other perform_small
returns-in-PutProperty c = λ story. rw (c.in-PutProperty.is, sym c.value_of-x.ensures, sym c.value_of-y.ensures, sym c.value_of.ensures) c.put_property.ensures
