use Rattle.std.proofs.Common.{List, map, ap, ◌∙◌}
use Rattle.meaning.specs.Views.{value_of, values_of}
use Rattle.code_drafts.specs.Code.{as_destination, as_operands}
use Rattle.code_drafts.specs.Items.{are_more_pushed}
use Rattle.code_drafts.specs.declared.item.Operand as code_operand
use Rattle.code_drafts.specs.Writing.{link_of}
use Rattle.code_items.proofs.OperationForms.{chain_more, entry_more, assigned_entry_link, compare_more}
use Rattle.code_items.proofs.OperationForms.{assigned_entry_more}
use Rattle.code_items.proofs.Values.{prefix_more, not_more_at}
use Rattle.code_items.proofs.Alternatives.{equal_more}
use Rattle.code_items.proofs.CodeForms.{assigned_nowhere, assigned_pushed, assigned_kept, assigned_aside}
use Rattle.code_items.proofs.CodeForms.{call_written, and_written}
use Rattle.code_items.proofs.CodeForms.{or_written, operation_written, comparison_written, few_written, many_written}
use Rattle.code_items.proofs.CodeForms.{placed_written}
use Rattle.code_items.proofs.ArgumentValues.{argument_round, pushed_round}
use Rattle.code_items.proofs.ListRounds.{folded_round, operand_round, link_round, links_done}
use Rattle.code_items.proofs.ObjectForms.{assigned_word_link, assigned_word_more}
use Rattle.code_items.proofs.Properties.{property_more}
use Rattle.code_items.proofs.ValuesOfObjects.{relative_written, property_size_written, has_written, provides_written}
use Rattle.code_items.proofs.ValuesOfObjects.{containment_written, indexed_property_written, assigned_property_written}
use Rattle.code_items.proofs.ValuesOfObjects.{contained_more, property_word_more, assign_property_more}
use Rattle.code_items.proofs.BoxedForms.{number_form, read_form, step_before_form, step_after_form, call_form}
use Rattle.code_items.proofs.BoxedForms.{prefixed_form, assign_form, entry_form, relative_form, has_form}
use Rattle.code_items.proofs.BoxedForms.{provides_form, property_form, property_size_form, compare_form}
use Rattle.code_items.proofs.BoxedForms.{assign_entry_form, contained_form, property_word_form, assign_property_form}
use Rattle.code_items.proofs.BoxedForms.{chain_form, equal_form, assign_property_word_form}
use Rattle.code_items.proofs.BoxedForms.{on_ok}
use Rattle.code_items.proofs.+values.Goals as goal

pub value::put_assigned-returns-in-Nowhere : goal.value::put_assigned-returns-in-Nowhere
value::put_assigned-returns-in-Nowhere t c = on_ok c.put_value.result
    (assigned_nowhere _ _ _ c.args.wanted c.args.variable _ _ c.in-Nowhere.is c.in-Ok.ensures) c.put_value.ensures

pub value::put_assigned-returns-in-Ok-put : goal.value::put_assigned-returns-in-Ok-put
value::put_assigned-returns-in-Ok-put t c = on_ok c.put_value-in-Push.result
    (assigned_pushed _ _ _ _ c.args.wanted c.args.variable _ _ c.in-Push.is c.in-Ok.ensures c.in-Ok-put.ensures)
    c.put_value-in-Push.ensures

pub value::put_assigned-returns-in-Ok-put-3 : goal.value::put_assigned-returns-in-Ok-put-3
value::put_assigned-returns-in-Ok-put-3 t c = on_ok c.put_value-in-Into.result
    (assigned_kept _ _ _ _ _ c.args.wanted c.args.variable c.in-Into.other _ _ c.in-Into.is c.in-Ok.ensures
    c.in-Ok-put-2.ensures c.in-Ok-put-3.ensures) c.put_value-in-Into.ensures

pub value::put_assigned-returns-in-Ok-put-5 : goal.value::put_assigned-returns-in-Ok-put-5
value::put_assigned-returns-in-Ok-put-5 t c = on_ok c.put_value-in-Aside.result
    (assigned_aside _ _ _ _ _ c.args.wanted c.args.variable _ _ c.in-Aside.is c.in-Ok.ensures
    c.in-Ok-put-4.ensures c.in-Ok-put-5.ensures) c.put_value-in-Aside.ensures

pub value::put_call-returns : goal.value::put_call-returns
value::put_call-returns t c = on_ok c.put_arguments.result
    (call_written _ _ _ _ c.args.wanted (as_destination c.in-Ok.destination)
    c.args.routine (values_of (map value_of c.args.arguments.now)) _ _ _ _ c.new-operands.ensures.items
    c.in-Ok.ensures c.in-Ok-push_operands.ensures
    (c.are_more_pushed-several.ensures ∙ ap (λ (l : List code_operand.Operand). are_more_pushed (as_operands l))
    c.deref.ensures.value)
    c.call_item.ensures c.in-Ok-put.ensures) c.put_arguments.ensures

pub value::put_prefixed-returns-in-Ok : goal.value::put_prefixed-returns-in-Ok
value::put_prefixed-returns-in-Ok t c = on_ok c.put_value.result
    (not_more_at _ _ _ c.args.wanted c.in-Ok.when c.in-Ok.left c.args.prefix _ c.in-Not.is c.in-Ok.ensures)
    c.put_value.ensures

pub value::put_prefixed-returns-in-Ok-put : goal.value::put_prefixed-returns-in-Ok-put
value::put_prefixed-returns-in-Ok-put t c = on_ok c.put_operand.result
    (prefix_more _ _ _ _ c.args.wanted _ c.args.prefix _ _ c.in_default.not-Not c.in-Ok-put_word.ensures
    c.alone-operand.ensures c.in-Ok-put.ensures) c.put_operand.ensures

pub value::put_entry-returns : goal.value::put_entry-returns
value::put_entry-returns t c = on_ok c.put_right.result
    (entry_more _ _ _ _ c.args.wanted _ c.args.width c.args.array _ _ _
    c.in-Ok.ensures c.alone-operand.ensures c.entry_item.ensures c.in-Ok-put.ensures) c.put_right.ensures

pub value::put_assigned_entry-returns : goal.value::put_assigned_entry-returns
value::put_assigned_entry-returns t c = on_ok c.put_right.result
    (assigned_entry_link _ _ _ _ c.args.wanted _ c.args.width c.args.array _ _ _ _
    c.in-Ok.ensures c.alone-operand.ensures c.assign_entry_item.ensures c.in-Ok-put.ensures) c.put_right.ensures

pub value_operations::put_comparison-returns : goal.value_operations::put_comparison-returns
value_operations::put_comparison-returns t c = on_ok c.put_operand.result
    (comparison_written _ _ _ _ c.args.wanted c.in-Ok.when _
    c.in-Ok.target
    c.args.comparison _ _ _ _ _ c.in-Ok.ensures c.alone-operand.ensures c.in-Ok-vec.ensures.items
    c.comparison_test-test.ensures c.comparison_when-when.ensures c.in-Ok-put.ensures) c.put_operand.ensures

pub value_operations::put_link-returns-in-Ok-put_value : goal.value_operations::put_link-returns-in-Ok-put_value
value_operations::put_link-returns-in-Ok-put_value t c = and_written _ _ _ c.args.wanted _ c.in-Ok.when c.in-Ok.target _
    c.args.operator _ _ c.in-AndAlso.is c.in-Ok.ensures c.item_count-end.ensures c.in-Ok-put_value.ensures
    c.first_of_and.ensures

pub value_operations::put_link-returns-in-Ok-put_value-2 : goal.value_operations::put_link-returns-in-Ok-put_value-2
value_operations::put_link-returns-in-Ok-put_value-2 t c = or_written _ _ _ c.args.wanted _ c.in-Ok-put_truth.when
    c.in-Ok-put_truth.target _ c.args.operator _ _ c.in-OrElse.is c.in-Ok-put_truth.ensures
    c.item_count-end-in-OrElse.ensures c.in-Ok-put_value-2.ensures c.first_of_or.ensures

pub value_operations::put_link-returns-in-Ok-put_right : goal.value_operations::put_link-returns-in-Ok-put_right
value_operations::put_link-returns-in-Ok-put_right t c =
    operation_written _ _ _ _ c.args.wanted _ _ c.args.operator _ _ _ _ c.in_default.not-AndAlso
    c.in_default.not-OrElse c.in-Ok-put_word.ensures c.alone-right.ensures c.right_place-place.ensures
    c.operation_item.ensures c.in-Ok-put.ensures c.in-Ok-put_right.ensures

pub value_operations::put_others-returns-in_ok-put : goal.value_operations::put_others-returns-in_ok-put
value_operations::put_others-returns-in_ok-put t c = on_ok c.put_operands.result (few_written _ _ _ _ c.args.wanted
    c.in_ok-when.when _ _ c.in_ok-when.target c.args.equality _ _ _ _ (values_of (map value_of c.args.others.now))
    c.are_few.ensures c.if-are_few.true c.in_ok-when.ensures c.in_ok-operands.ensures.items
    c.in_ok-push_operands.ensures c.equality_when-when.ensures c.in_ok-put.ensures) c.put_operands.ensures

pub value_operations::put_others-returns-in_ok-put_folded : goal.value_operations::put_others-returns-in_ok-put_folded
value_operations::put_others-returns-in_ok-put_folded t c = on_ok c.put-then-is_pushed-2.result
    (many_written _ _ _ _ _ _ c.args.wanted
    c.in_ok-when.when _ _ _ c.in_ok-when.target c.args.equality _ _ (values_of (map value_of c.args.others.now))
    c.are_few.ensures c.if-are_few.false c.is_pushed.ensures c.if-is_pushed.true c.in_ok-when.ensures
    c.equality_when-when.ensures c.in_ok-put_branch.ensures c.in_ok-put-2.ensures c.in_ok-put_folded.ensures)
    c.put-then-is_pushed-2.ensures

pub value_operations::put_others-returns-in_ok-push_alone : goal.value_operations::put_others-returns-in_ok-push_alone
value_operations::put_others-returns-in_ok-push_alone t c = on_ok c.put_each_same.result (placed_written _ _ _ c.args.wanted
    c.in_ok-when.when _ _ _ c.in_ok-when.target c.args.equality _ _ _ _ _ (values_of (map value_of c.args.others.now))
    c.are_few.ensures c.if-are_few.false c.is_pushed.ensures c.if-is_pushed.false c.in_ok-when.ensures
    c.in_ok-compared.ensures.items c.in_ok-push_alone.ensures c.deref.ensures.value c.equality_when-when.ensures)
    c.put_each_same.ensures

-- Rounds of loops

pub value_operations::put_folded-loop-done-preserved : goal.value_operations::put_folded-loop-done-preserved
value_operations::put_folded-loop-done-preserved t c = folded_round _ _ _ _ c.args.values.now c.loop-done.done _
    c.loop-done-test.true
    c.index-values-values.is c.loop-done.invariant c.in-Ok.ensures c.in-Ok-put_value.ensures

pub value::put_operands-loop-done-preserved : goal.value::put_operands-loop-done-preserved
value::put_operands-loop-done-preserved t c = operand_round _ _ _ c.args.values.now c.loop-done.done _ _
    c.loop-done-test.true
    c.index-values-number.is c.before-operand.ensures c.loop-done.invariant c.in-Ok.ensures

pub value::put_arguments-loop-done-preserved : goal.value::put_arguments-loop-done-preserved
value::put_arguments-loop-done-preserved t c = (
  argument_round c.args.values.now c.loop-done.done _ _ c.loop-done.after c.loop-done-test.true
      c.index-values-number.is c.before-operand.ensures c.loop-done.invariant.1 _ _ _ c.args.several _
      c.argument_place-place.ensures c.loop-done.invariant.0 c.in-Ok.ensures,
  pushed_round c.args.values.now c.loop-done.done _ _ c.loop-done.after c.loop-done-test.true
      c.index-values-number.is c.before-operand.ensures c.loop-done.invariant.1 _ c.is_pushed_or_later-after.ensures,
)

pub value_operations::put_links-loop-done-preserved : goal.value_operations::put_links-loop-done-preserved
value_operations::put_links-loop-done-preserved t c = link_round _ _ _ c.args.wanted _ _ c.args.links.now c.loop-done.done _
    c.loop-done-test.true c.index-links-links.is c.loop-done.invariant c.in-Ok.ensures

pub value_operations::put_links-returns : goal.value_operations::put_links-returns
value_operations::put_links-returns t c =
    links_done _ _ c.args.wanted _ c.args.links.now c.loop-done.done c.loop-done-test.false c.loop-done.invariant

-- What is said of objects

pub objects::put_relative-returns : goal.objects::put_relative-returns
objects::put_relative-returns t c = on_ok c.put_operand.result
    (relative_written _ _ _ _ c.args.wanted _ c.args.relation _ _
    c.in-Ok.ensures
    c.alone-operand.ensures c.in-Ok-put.ensures) c.put_operand.ensures

pub objects::put_property-returns : goal.objects::put_property-returns
objects::put_property-returns t c = on_ok c.put_operand.result
    (property_more _ _ _ _ _ c.args.wanted _ _ c.args.number _ _ c.args.others.now
    c.in-Ok.ensures c.in-Ok-put_word.ensures c.alone-operand.ensures c.in-Ok-put.ensures) c.put_operand.ensures

pub objects::put_property_size-returns : goal.objects::put_property_size-returns
objects::put_property_size-returns t c = on_ok c.put_operand.result
    (property_size_written _ _ _ _ c.args.wanted _ c.args.number _ _
    c.in-Ok.ensures c.alone-operand.ensures c.in-Ok-put.ensures) c.put_operand.ensures

pub objects::put_has-returns : goal.objects::put_has-returns
objects::put_has-returns t c = on_ok c.put_operand.result
    (has_written _ _ _ _ c.args.wanted c.in-Ok.when _ c.in-Ok.target c.args.positive c.args.attribute _ _
    c.in-Ok.ensures c.alone-operand.ensures c.has_when-when.ensures c.in-Ok-put.ensures) c.put_operand.ensures

pub objects::put_provides-returns : goal.objects::put_provides-returns
objects::put_provides-returns t c = on_ok c.put_operand.result
    (provides_written _ _ _ _ c.args.wanted c.in-Ok.when c.in-Ok.target
    c.args.property
    _ _ c.in-Ok.ensures c.alone-operand.ensures c.in-Ok-put.ensures) c.put_operand.ensures

pub objects::put_containment-returns : goal.objects::put_containment-returns
objects::put_containment-returns t c = on_ok c.put_operand.result
    (containment_written _ _ _ _ c.args.wanted c.in-Ok.when _ c.in-Ok.target
    c.args.containment _ _ _ c.in-Ok.ensures c.alone-operand.ensures c.containment_when-when.ensures
    c.in-Ok-put.ensures) c.put_operand.ensures

pub objects::put_indexed_property-returns : goal.objects::put_indexed_property-returns
objects::put_indexed_property-returns t c = on_ok c.put_operand.result
    (indexed_property_written _ _ _ _ c.args.wanted _ c.args.number _ _ _
    c.in-Ok.ensures c.alone-operand.ensures c.in-Ok-put.ensures) c.put_operand.ensures

pub objects::put_assigned_property-returns : goal.objects::put_assigned_property-returns
objects::put_assigned_property-returns t c = on_ok c.put_operand.result
    (assigned_property_written _ _ _ _ c.args.wanted _ c.args.number _ _ _
    c.in-Ok.ensures c.alone-operand.ensures c.in-Ok-put.ensures) c.put_operand.ensures

pub objects::put_assigned_word-returns : goal.objects::put_assigned_word-returns
objects::put_assigned_word-returns t c = on_ok c.put_operand.result
    (assigned_word_link _ _ _ _ c.args.wanted _ c.args.number _ _ _ _
    c.in-Ok.ensures c.alone-operand.ensures c.in-Ok-put.ensures) c.put_operand.ensures

-- Forms of two or more parts

pub value_operations::put_compare-returns : goal.value_operations::put_compare-returns
value_operations::put_compare-returns t c = on_ok c.put_operand.result
    (compare_more _ _ _ c.args.wanted c.args.comparison _ _ _ c.left_of-operand.ensures
    c.in-Ok.ensures) c.put_operand.ensures

pub value::put_assign_entry-returns : goal.value::put_assign_entry-returns
value::put_assign_entry-returns t c = on_ok c.put_right.result
    (assigned_entry_more _ _ _ c.args.wanted c.args.width c.args.array _ _ _ _ _
    c.left_of-left.ensures c.in-Ok.ensures c.alone.ensures c.index_place-place.ensures) c.put_right.ensures

pub objects::put_contained-returns : goal.objects::put_contained-returns
objects::put_contained-returns t c = on_ok c.put_operand.result
    (contained_more _ _ _ c.args.wanted c.args.containment _ _ _ c.left_of-left.ensures
    c.in-Ok.ensures) c.put_operand.ensures

pub objects::put_property_word-returns : goal.objects::put_property_word-returns
objects::put_property_word-returns t c = on_ok c.put_operand.result
    (property_word_more _ _ _ c.args.wanted c.args.number _ _ _
    c.left_of-left.ensures
    c.in-Ok.ensures) c.put_operand.ensures

pub objects::put_assign_property-returns : goal.objects::put_assign_property-returns
objects::put_assign_property-returns t c = on_ok c.put_operand.result
    (assign_property_more _ _ _ c.args.wanted c.args.number _ _ _
    c.left_of-left.ensures
    c.in-Ok.ensures) c.put_operand.ensures

pub value_operations::put_chain-returns : goal.value_operations::put_chain-returns
value_operations::put_chain-returns t c = on_ok c.put_first.result
    (chain_more _ _ _ _ c.args.wanted _ _ c.args.operator _ (value_of c.args.first.now)
    (value_of c.args.second.now) (map link_of c.args.links.now) c.in-Ok.ensures c.left_of-left.ensures
    c.in-Ok-put_link.ensures) c.put_first.ensures

pub value_operations::put_equal-returns : goal.value_operations::put_equal-returns
value_operations::put_equal-returns t c = on_ok c.put_operand-2.result
    (equal_more _ _ _ _ c.args.wanted c.args.equality _ _ (value_of c.args.left.now) (value_of c.args.right.now)
    (values_of (map value_of c.args.others.now)) c.side_operands-first.ensures.left c.side_operands-first.ensures.right
    c.in-Ok.ensures c.in-Ok-put_operand.ensures) c.put_operand-2.ensures

pub objects::put_assign_property_word-returns : goal.objects::put_assign_property_word-returns
objects::put_assign_property_word-returns t c = on_ok c.put_operand-2.result
    (assigned_word_more _ _ _ _ c.args.wanted c.args.number _ _
    (value_of c.args.object.now) (value_of c.args.index.now) (value_of c.args.value.now) c.first_of-first.ensures
    c.left_of-second.ensures c.in-Ok.ensures c.in-Ok-put_operand.ensures) c.put_operand-2.ensures

-- An expression: its form, whose parts are in boxes

pub value::put_value-returns-in-Number : goal.value::put_value-returns-in-Number
value::put_value-returns-in-Number t c =
    number_form c.put_number.result _ _ c.args.wanted _ _ c.in-Number.is c.put_number.ensures

pub value::put_value-returns-in-Read : goal.value::put_value-returns-in-Read
value::put_value-returns-in-Read t c = read_form c.put_read.result _ _ c.args.wanted _ _ c.in-Read.is c.put_read.ensures

pub value::put_value-returns-in-StepBefore : goal.value::put_value-returns-in-StepBefore
value::put_value-returns-in-StepBefore t c =
    step_before_form c.put_step_before.result _ _ c.args.wanted _ _ _ c.in-StepBefore.is c.put_step_before.ensures

pub value::put_value-returns-in-StepAfter : goal.value::put_value-returns-in-StepAfter
value::put_value-returns-in-StepAfter t c =
    step_after_form c.put_step_after.result _ _ c.args.wanted _ _ _ c.in-StepAfter.is c.put_step_after.ensures

pub value::put_value-returns-in-Call : goal.value::put_value-returns-in-Call
value::put_value-returns-in-Call t c =
    call_form c.put_call.result _ _ c.args.wanted _ _ _ _ c.in-Call.is c.deref.ensures.value c.put_call.ensures

pub value::put_value-returns-in-Prefixed : goal.value::put_value-returns-in-Prefixed
value::put_value-returns-in-Prefixed t c = prefixed_form c.put_prefixed.result _ _ c.args.wanted _ _ _ _
    c.in-Prefixed.is
    c.deref-in-Prefixed.ensures c.put_prefixed.ensures

pub value::put_value-returns-in-Assign : goal.value::put_value-returns-in-Assign
value::put_value-returns-in-Assign t c = assign_form c.put_assigned.result _ _ c.args.wanted _ _ _ _ c.in-Assign.is
    c.deref-in-Assign.ensures c.put_assigned.ensures

pub value::put_value-returns-in-Entry : goal.value::put_value-returns-in-Entry
value::put_value-returns-in-Entry t c =
    entry_form c.put_entry.result _ _ c.args.wanted _ _ _ _ _ c.in-Entry.is c.deref-in-Entry.ensures c.put_entry.ensures

pub value::put_value-returns-in-Relative : goal.value::put_value-returns-in-Relative
value::put_value-returns-in-Relative t c = relative_form c.put_relative.result _ _ c.args.wanted _ _ _ _
    c.in-Relative.is
    c.deref-in-Relative.ensures c.put_relative.ensures

pub value::put_value-returns-in-Has : goal.value::put_value-returns-in-Has
value::put_value-returns-in-Has t c =
    has_form c.put_has.result _ _ c.args.wanted _ _ _ _ _ c.in-Has.is c.deref-in-Has.ensures c.put_has.ensures

pub value::put_value-returns-in-Provides : goal.value::put_value-returns-in-Provides
value::put_value-returns-in-Provides t c = provides_form c.put_provides.result _ _ c.args.wanted _ _ _ _
    c.in-Provides.is
    c.deref-in-Provides.ensures c.put_provides.ensures

pub value::put_value-returns-in-Property : goal.value::put_value-returns-in-Property
value::put_value-returns-in-Property t c = property_form c.put_property.result _ _ c.args.wanted _ _ _ _ _ _
    c.in-Property.is c.deref-in-Property.ensures c.deref-in-Property-2.ensures.value c.put_property.ensures

pub value::put_value-returns-in-PropertySize : goal.value::put_value-returns-in-PropertySize
value::put_value-returns-in-PropertySize t c = property_size_form c.put_property_size.result _ _ c.args.wanted _ _ _ _
    c.in-PropertySize.is c.deref-in-PropertySize.ensures c.put_property_size.ensures

pub value::put_value-returns-in-Compare : goal.value::put_value-returns-in-Compare
value::put_value-returns-in-Compare t c = compare_form c.put_compare.result _ _ c.args.wanted _ _ _ _ _ _
    c.in-Compare.is
    c.deref-in-Compare.ensures c.deref-in-Compare-2.ensures c.put_compare.ensures

pub value::put_value-returns-in-AssignEntry : goal.value::put_value-returns-in-AssignEntry
value::put_value-returns-in-AssignEntry t c = assign_entry_form c.put_assign_entry.result _ _ c.args.wanted _ _ _ _ _
    _ _
    c.in-AssignEntry.is c.deref-in-AssignEntry.ensures c.deref-in-AssignEntry-2.ensures c.put_assign_entry.ensures

pub value::put_value-returns-in-Contained : goal.value::put_value-returns-in-Contained
value::put_value-returns-in-Contained t c = contained_form c.put_contained.result _ _ c.args.wanted _ _ _ _ _ _
    c.in-Contained.is c.deref-in-Contained.ensures c.deref-in-Contained-2.ensures c.put_contained.ensures

pub value::put_value-returns-in-PropertyWord : goal.value::put_value-returns-in-PropertyWord
value::put_value-returns-in-PropertyWord t c = property_word_form c.put_property_word.result _ _ c.args.wanted _ _ _ _
    _ _
    c.in-PropertyWord.is c.deref-in-PropertyWord.ensures c.deref-in-PropertyWord-2.ensures c.put_property_word.ensures

pub value::put_value-returns-in-AssignProperty : goal.value::put_value-returns-in-AssignProperty
value::put_value-returns-in-AssignProperty t c =
    assign_property_form c.put_assign_property.result _ _ c.args.wanted _ _ _ _ _ _ c.in-AssignProperty.is
    c.deref-in-AssignProperty.ensures c.deref-in-AssignProperty-2.ensures c.put_assign_property.ensures

pub value::put_value-returns-in-AssignPropertyWord : goal.value::put_value-returns-in-AssignPropertyWord
value::put_value-returns-in-AssignPropertyWord t c = assign_property_word_form c.put_assign_property_word.result _ _
    c.args.wanted _ _ _ _ _ _ _ _ c.in-AssignPropertyWord.is c.deref-in-AssignPropertyWord.ensures
    c.deref-in-AssignPropertyWord-2.ensures c.deref-in-AssignPropertyWord-3.ensures c.put_assign_property_word.ensures

pub value::put_value-returns-in-Chain : goal.value::put_value-returns-in-Chain
value::put_value-returns-in-Chain t c = chain_form c.put_chain.result _ _ c.args.wanted _ _ _ _ _ _ _ _ c.in-Chain.is
    c.deref-in-Chain.ensures c.deref-in-Chain-2.ensures c.deref-in-Chain-3.ensures.value c.put_chain.ensures

pub value::put_value-returns-in-Equal : goal.value::put_value-returns-in-Equal
value::put_value-returns-in-Equal t c = equal_form c.put_equal.result _ _ c.args.wanted _ _ _ _ _ _ _ _ c.in-Equal.is
    c.deref-in-Equal.ensures c.deref-in-Equal-2.ensures c.deref-in-Equal-3.ensures.value c.put_equal.ensures
