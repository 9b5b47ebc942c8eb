use Rattle.std.proofs.Common.{ℕ, slice_index, subst}
use Rattle.machine_frames.specs.Went.{Went}
use Rattle.zcore_standard.specs.Forgiving.{test_no_attribute, change_no_attribute, get_any_property, put_any_property}
use Rattle.zcore_standard.specs.Forgiving.{perform_forgiving}
use Rattle.machine_standard_objects.proofs.Slips.{none_changed}
use Rattle.machine_standard_objects.proofs.forgiving.perform_forgiving.Goals as goal

pub returns-in-TestAttribute : goal.returns-in-TestAttribute
unfolding perform_forgiving
returns-in-TestAttribute c =
    let e = c.args.ending in
    let P : ℕ → Type 0 = λ n. Went c.test_no_attribute.result c.args.store.now c.test_no_attribute.new.store
    (test_no_attribute c.args.here e.after e.branch n) in
    rw c.in-TestAttribute.is (subst P c.value_of-object.ensures c.test_no_attribute.ensures)

pub returns-in-GetProperty : goal.returns-in-GetProperty
unfolding perform_forgiving
returns-in-GetProperty c =
    let e = c.args.ending in
    let P : ℕ → ℕ → Type 0 = λ m n. Went c.get_any_property.result c.args.store.now c.get_any_property.new.store
    (get_any_property c.args.here e.after e.result m n) in
    rw c.in-GetProperty.is
    (subst (λ m. P m (slice_index c.args.values.now 1)) c.value_of-object.ensures
    (subst (P c.value_of-object.result) c.value_of-number.ensures c.get_any_property.ensures))

pub returns-in-PutProperty : goal.returns-in-PutProperty
unfolding perform_forgiving
returns-in-PutProperty c =
    let e = c.args.ending in
    let P : ℕ → ℕ → ℕ → Type 0 = λ l m n. Went c.put_any_property.result c.args.store.now c.put_any_property.new.store
    (put_any_property c.args.here e.after l m n) in
    let o = c.value_of-object.result in
    let v = c.args.values.now in
    rw c.in-PutProperty.is
    (subst (λ l. P l (slice_index v 1) (slice_index v 2)) c.value_of-object.ensures
    (subst (λ m. P o m (slice_index v 2)) c.value_of-number-in-PutProperty.ensures
    (subst (P o c.value_of-number-in-PutProperty.result) c.value_of.ensures c.put_any_property.ensures)))

pub returns-in_default : goal.returns-in_default
returns-in_default c =
    let P : ℕ → Type 0 = λ n. Went c.change_no_attribute.result c.args.store.now c.args.store.now
    (change_no_attribute c.args.here c.args.ending.after n) in
    none_changed _ _ _ c.args.operation c.args.here c.args.ending.after c.args.ending.result
    c.args.ending.branch c.args.values.now c.in_default.not-TestAttribute c.in_default.not-GetProperty
    c.in_default.not-PutProperty (subst P c.value_of-object.ensures c.change_no_attribute.ensures)
