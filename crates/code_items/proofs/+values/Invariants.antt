use Rattle.std.proofs.Common.{◌≡◌, ◌-◌, ◌+◌, ◌*◌, max, [], length, map, drop}
use Rattle.meaning.specs.declared.resolved.Value.{size-Value}
use Rattle.meaning.specs.Views.{value_of, values_of}
use Rattle.code_drafts.specs.Items.{operands_of, is_any_pushed, operands_items, arguments_items}
use Rattle.code_drafts.specs.Writing.{written_in, link_of, WritesBefore}
use Rattle.code_items.specs.ValueWriting.{folded_items, ReducesLinks}
use Rattle.code_items.proofs.+values.Given as goal

abbrev pub invariant-value::put_operands-loop-done : goal.invariant-value::put_operands-loop-done
invariant-value::put_operands-loop-done l = WritesBefore (written_in l.initial.draft) (written_in l.draft)
    (λ n at. operands_items at (values_of (map value_of (drop (length l.values - l.done) l.values))))

abbrev pub invariant-value::put_arguments-loop-done : goal.invariant-value::put_arguments-loop-done
invariant-value::put_arguments-loop-done l =
    WritesBefore (written_in l.initial.draft) (written_in l.draft) (λ n at. arguments_items l.several at
    (values_of (map value_of (drop (length l.values - l.done) l.values))))
    × (l.after ≡ is_any_pushed (operands_of (values_of (map value_of (drop (length l.values - l.done) l.values)))))

abbrev pub invariant-value_operations::put_folded-loop-done : goal.invariant-value_operations::put_folded-loop-done
invariant-value_operations::put_folded-loop-done l = WritesBefore (written_in l.initial.draft) (written_in l.draft)
    (λ n at. folded_items at (values_of (map value_of (drop (length l.values - l.done) l.values))))

abbrev pub invariant-value_operations::put_links-loop-done : goal.invariant-value_operations::put_links-loop-done
invariant-value_operations::put_links-loop-done l =
    ReducesLinks (written_in l.initial.draft) (written_in l.draft) l.initial.wanted l.wanted
    (map link_of (drop (length l.links - l.done) l.links))

-- how deep a tree is, and which function calls which on the same tree

abbrev pub decreases-value::put_value : goal.decreases-value::put_value
decreases-value::put_value l = 8 * goal.size-value::put_value l

abbrev pub decreases-value::put_operand : goal.decreases-value::put_operand
decreases-value::put_operand l = 8 * goal.size-value::put_operand l + 1

abbrev pub decreases-value::put_right : goal.decreases-value::put_right
decreases-value::put_right l = 8 * goal.size-value::put_right l + 1

abbrev pub decreases-value::put_operands : goal.decreases-value::put_operands
decreases-value::put_operands l = 8 * goal.size-value::put_operands l + 2

abbrev pub decreases-value::put_arguments : goal.decreases-value::put_arguments
decreases-value::put_arguments l = 8 * goal.size-value::put_arguments l + 2

abbrev pub decreases-value::put_call : goal.decreases-value::put_call
decreases-value::put_call l = 8 * goal.size-value::put_call l + 3

abbrev pub decreases-value::put_prefixed : goal.decreases-value::put_prefixed
decreases-value::put_prefixed l = 8 * goal.size-value::put_prefixed l + 2

abbrev pub decreases-value::put_assigned : goal.decreases-value::put_assigned
decreases-value::put_assigned l = 8 * goal.size-value::put_assigned l + 2

abbrev pub decreases-value::put_entry : goal.decreases-value::put_entry
decreases-value::put_entry l = 8 * goal.size-value::put_entry l + 2

abbrev pub decreases-value::put_assigned_entry : goal.decreases-value::put_assigned_entry
decreases-value::put_assigned_entry l = 8 * goal.size-value::put_assigned_entry l + 2

abbrev pub decreases-objects::put_relative : goal.decreases-objects::put_relative
decreases-objects::put_relative l = 8 * goal.size-objects::put_relative l + 2

abbrev pub decreases-objects::put_containment : goal.decreases-objects::put_containment
decreases-objects::put_containment l = 8 * goal.size-objects::put_containment l + 2

abbrev pub decreases-objects::put_has : goal.decreases-objects::put_has
decreases-objects::put_has l = 8 * goal.size-objects::put_has l + 2

abbrev pub decreases-objects::put_provides : goal.decreases-objects::put_provides
decreases-objects::put_provides l = 8 * goal.size-objects::put_provides l + 2

abbrev pub decreases-objects::put_property : goal.decreases-objects::put_property
decreases-objects::put_property l = 8 * goal.size-objects::put_property l + 2

abbrev pub decreases-objects::put_property_size : goal.decreases-objects::put_property_size
decreases-objects::put_property_size l = 8 * goal.size-objects::put_property_size l + 2

abbrev pub decreases-objects::put_indexed_property : goal.decreases-objects::put_indexed_property
decreases-objects::put_indexed_property l = 8 * goal.size-objects::put_indexed_property l + 2

abbrev pub decreases-objects::put_assigned_property : goal.decreases-objects::put_assigned_property
decreases-objects::put_assigned_property l = 8 * goal.size-objects::put_assigned_property l + 2

abbrev pub decreases-objects::put_assigned_word : goal.decreases-objects::put_assigned_word
decreases-objects::put_assigned_word l = 8 * goal.size-objects::put_assigned_word l + 2

abbrev pub decreases-value_operations::put_links : goal.decreases-value_operations::put_links
decreases-value_operations::put_links l = 8 * goal.size-value_operations::put_links l + 3

abbrev pub decreases-value_operations::put_link : goal.decreases-value_operations::put_link
decreases-value_operations::put_link l = 8 * goal.size-value_operations::put_link l + 2

abbrev pub decreases-value_operations::put_first : goal.decreases-value_operations::put_first
decreases-value_operations::put_first l = 8 * goal.size-value_operations::put_first l + 2

abbrev pub decreases-value_operations::put_comparison : goal.decreases-value_operations::put_comparison
decreases-value_operations::put_comparison l = 8 * goal.size-value_operations::put_comparison l + 2

abbrev pub decreases-value_operations::put_others : goal.decreases-value_operations::put_others
decreases-value_operations::put_others l = 8 * goal.size-value_operations::put_others l + 3

abbrev pub decreases-value_operations::put_folded : goal.decreases-value_operations::put_folded
decreases-value_operations::put_folded l = 8 * goal.size-value_operations::put_folded l + 2

-- the measure that is offered goes by the first part alone
abbrev pub decreases-value_operations::put_compare : goal.decreases-value_operations::put_compare
decreases-value_operations::put_compare l = 8 * max (size-Value l.left.now) (size-Value l.right.now) + 4

abbrev pub decreases-value::put_assign_entry : goal.decreases-value::put_assign_entry
decreases-value::put_assign_entry l = 8 * max (size-Value l.index.now) (size-Value l.value.now) + 4

abbrev pub decreases-objects::put_contained : goal.decreases-objects::put_contained
decreases-objects::put_contained l = 8 * max (size-Value l.object.now) (size-Value l.parent.now) + 4

abbrev pub decreases-objects::put_property_word : goal.decreases-objects::put_property_word
decreases-objects::put_property_word l = 8 * max (size-Value l.object.now) (size-Value l.index.now) + 4

abbrev pub decreases-objects::put_assign_property : goal.decreases-objects::put_assign_property
decreases-objects::put_assign_property l = 8 * max (size-Value l.object.now) (size-Value l.value.now) + 4

abbrev pub decreases-objects::put_assign_property_word : goal.decreases-objects::put_assign_property_word
decreases-objects::put_assign_property_word l =
    8 * max (size-Value l.object.now) (max (size-Value l.index.now) (size-Value l.value.now)) + 4

abbrev pub decreases-value_operations::put_chain : goal.decreases-value_operations::put_chain
decreases-value_operations::put_chain l = 8 * max
    (max (size-Value l.first.now) (size-Value l.second.now))
    (goal.size-value_operations::put_links
    (record { the-lifetimes = ([], ([], ([], tt))); draft = l.draft; links = l.links; wanted = l.wanted })) + 4

abbrev pub decreases-value_operations::put_equal : goal.decreases-value_operations::put_equal
decreases-value_operations::put_equal l = 8 * max
    (max (size-Value l.left.now) (size-Value l.right.now))
    (goal.size-value::put_operands
    (record { the-lifetimes = ([], ([], ([], tt))); draft = l.draft; values = l.others })) + 4
