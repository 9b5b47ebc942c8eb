use Rattle.std.proofs.Common.{◌≡◌, Option, Some, None, length, refl, sym, ap, ◌∙◌}
use Rattle.std.specs.Prelude.{map}
use Rattle.std.specs.Option.{option_map}
use Rattle.syntax_trees.specs.declared.tree.Binary.{Binary}
use Rattle.syntax_trees.specs.declared.tree.Expression.{Expression}
use Rattle.syntax_trees.specs.Tree as trees
use Rattle.syntax_trees.specs.Views.{expression_tree, name_tree}
use Rattle.meaning.specs.Resolved as values
use Rattle.meaning.specs.Resolved.{Value}
use Rattle.meaning.specs.Views.{value_of}
use Rattle.checker_values.specs.declared.binding.Binding.{Binding}
use Rattle.checker_values.specs.Names.{name_of}
use Rattle.checker_values.specs.Breaches.{at}
use Rattle.checker_values.specs.Scope.{look_in, seen_in}
use Rattle.checker_values.proofs.Noted.{noted_two}
use Rattle.checker_values.proofs.Each.{each_next, each_end, value_next, value_end}
use Rattle.checker_values.specs.Expressions.{breaches, tested_breaches}
use Rattle.checker_values.specs.Expressions.{tested_for, assigned}
use Rattle.checker_values.specs.Walk.{value_link, own_breaches, resolved, link_breaches, resolved_link}
use Rattle.checker_values.proofs.Shapes.{is_constant, is_word, is_named, is_call, is_index, is_parenthesised}
use Rattle.checker_values.proofs.Shapes.{is_prefixed, is_relative_of, is_property, is_property_length}
use Rattle.checker_values.proofs.Shapes.{is_property_entry, is_step_before, is_step_after, is_chain, is_compare}
use Rattle.checker_values.proofs.Shapes.{is_equal, is_contained, is_tested, is_assign}
use Rattle.checker_values.proofs.Walks.{leaf, named_part, one, two, three, made_call, made_prefixed}
use Rattle.checker_values.proofs.Walks.{made_step_before, made_step_after, made_chain, made_compare, made_equal}
use Rattle.checker_values.proofs.Walks.{made_entry, made_relative, made_contained, made_property, made_property_size}
use Rattle.checker_values.proofs.Walks.{made_property_word, made_walked, boxed_walked, kept_walked}
use Rattle.checker_values.proofs.Forms.{all_walked, chain_walked, properties_walked, call_walked, index_walked}
use Rattle.checker_values.proofs.Forms.{name_assigned, part_assigned}
use Rattle.checker_values.proofs.expression_rules.+expression.Goals as goal

pub all_expressions-loop-e-preserved : goal.all_expressions-loop-e-preserved
all_expressions-loop-e-preserved t c =
    let f = λ (x : Expression). own_breaches (seen_in c.args.scope.now) x in
    let g = λ (x : Expression). resolved (seen_in c.args.scope.now) x in
    record {
      value = rw c.in_ok-add.ensures
          (value_next f g value_of c.loop-e.found.items c.in-Ok.resolved.value c.args.given.now c.loop-e.e-index
          c.e-item.result c.loop-e-test.true c.e-item.is c.loop-e.invariant.value c.in-Ok.ensures.value);
      tally = rw c.in-Ok.ensures.breaches
          (sym (each_next f g value_of c.loop-e.tally c.args.given.now c.loop-e.e-index c.e-item.result
          c.loop-e-test.true c.e-item.is) ∙ c.loop-e.invariant.tally);
    }

pub all_expressions-returns : goal.all_expressions-returns
all_expressions-returns t c =
    let f = λ (x : Expression). own_breaches (seen_in c.args.scope.now) x in
    let g = λ (x : Expression). resolved (seen_in c.args.scope.now) x in
    record {
      value = c.loop-e.invariant.value ∙ value_end f g value_of c.args.given.now c.loop-e.e-index c.loop-e-test.false;
      breaches = sym (each_end f g value_of c.loop-e.tally c.args.given.now c.loop-e.e-index c.loop-e-test.false)
          ∙ c.loop-e.invariant.tally;
    }

pub chain_links-loop-link-preserved : goal.chain_links-loop-link-preserved
chain_links-loop-link-preserved t c =
    let f = λ (x : Binary × Expression). link_breaches (seen_in c.args.scope.now) x in
    let g = λ (x : Binary × Expression). resolved_link (seen_in c.args.scope.now) x in
    record {
      value = rw c.in_ok-add_link.ensures
          (value_next f g value_link c.loop-link.found.items (c.link-item.result.0, c.in-Ok.operand.value) c.args.links.now
          c.loop-link.link-index c.link-item.result c.loop-link-test.true c.link-item.is c.loop-link.invariant.value
          (ap (λ (v : Value). (c.link-item.result.0, v)) c.in-Ok.ensures.value));
      tally = rw c.in-Ok.ensures.breaches
          (sym (each_next f g value_link c.loop-link.tally c.args.links.now c.loop-link.link-index c.link-item.result
          c.loop-link-test.true c.link-item.is) ∙ c.loop-link.invariant.tally);
    }

pub chain_links-returns : goal.chain_links-returns
chain_links-returns t c =
    let f = λ (x : Binary × Expression). link_breaches (seen_in c.args.scope.now) x in
    let g = λ (x : Binary × Expression). resolved_link (seen_in c.args.scope.now) x in
    record {
      value = c.loop-link.invariant.value ∙ value_end f g value_link c.args.links.now c.loop-link.link-index
          c.loop-link-test.false;
      breaches = sym
          (each_end f g value_link c.loop-link.tally c.args.links.now c.loop-link.link-index c.loop-link-test.false)
          ∙ c.loop-link.invariant.tally;
    }

pub boxed_expression-returns-in-Constant : goal.boxed_expression-returns-in-Constant
boxed_expression-returns-in-Constant t c =
    rw (is_constant c.args.e.now c.in-Constant.number c.in-Constant.is)
    (boxed_walked c.constant.result c.constant.ensures (leaf c.args.tally.now (values.number c.in-Constant.number)))

pub boxed_expression-returns-in-Chain : goal.boxed_expression-returns-in-Chain
boxed_expression-returns-in-Chain t c =
    rw (
      is_chain _ _ _ _ _ c.in-Chain.is,
      ← c.deref-in-Chain.ensures.value,
      ← c.deref-in-Chain-2.ensures,
      ← c.deref-in-Chain-3.ensures,
    ) c.chain.ensures

pub boxed_expression-returns-in-Named : goal.boxed_expression-returns-in-Named
boxed_expression-returns-in-Named t c = rw (is_named c.args.e.now _ c.in-Named.is) c.boxed_name.ensures

pub boxed_expression-returns-in-Word : goal.boxed_expression-returns-in-Word
boxed_expression-returns-in-Word t c =
    rw (is_word c.args.e.now _ c.in-Word.is)
    (boxed_walked c.word.result c.word.ensures (leaf c.args.tally.now _))

pub boxed_expression-returns-in-Call : goal.boxed_expression-returns-in-Call
boxed_expression-returns-in-Call t c =
    rw (is_call _ _ _ c.in-Call.is, ← c.deref.ensures.value, ← c.deref-in-Call.ensures) c.call.ensures

pub boxed_expression-returns-in-Parenthesised : goal.boxed_expression-returns-in-Parenthesised
boxed_expression-returns-in-Parenthesised t c =
    rw (is_parenthesised _ _ c.in-Parenthesised.is, ← c.deref-in-Parenthesised.ensures) c.boxed_expression.ensures

pub boxed_expression-returns-in-RelativeOf : goal.boxed_expression-returns-in-RelativeOf
boxed_expression-returns-in-RelativeOf t c =
    rw (is_relative_of _ _ _ c.in-RelativeOf.is, ← c.deref-in-RelativeOf.ensures) c.relative_of.ensures

pub boxed_expression-returns-in-Property : goal.boxed_expression-returns-in-Property
boxed_expression-returns-in-Property t c =
    rw (
      is_property _ _ _ _ c.in-Property.is,
      ← c.deref-in-Property.ensures,
      ← c.deref-in-Property-2.ensures,
      ← c.deref-in-Property-3.ensures.value,
    ) c.properties.ensures

pub boxed_expression-returns-in-PropertyLength : goal.boxed_expression-returns-in-PropertyLength
boxed_expression-returns-in-PropertyLength t c =
    rw (is_property_length _ _ _ c.in-PropertyLength.is, ← c.deref-in-PropertyLength.ensures) c.length_of.ensures

pub boxed_expression-returns-in-PropertyEntry : goal.boxed_expression-returns-in-PropertyEntry
boxed_expression-returns-in-PropertyEntry t c =
    rw (
      is_property_entry _ _ _ _ c.in-PropertyEntry.is,
      ← c.deref-in-PropertyEntry.ensures,
      ← c.deref-in-PropertyEntry-2.ensures,
    ) c.property_entry.ensures

pub boxed_expression-returns-in-Contained : goal.boxed_expression-returns-in-Contained
boxed_expression-returns-in-Contained t c =
    rw (is_contained _ _ _ _ c.in-Contained.is, ← c.deref-in-Contained.ensures, ← c.deref-in-Contained-2.ensures)
    c.contained.ensures

pub boxed_expression-returns-in-Tested : goal.boxed_expression-returns-in-Tested
boxed_expression-returns-in-Tested t c = rw (is_tested _ _ _ _ c.in-Tested.is, ← c.deref-in-Tested.ensures) c.tested.ensures

pub boxed_expression-returns-in-Prefixed : goal.boxed_expression-returns-in-Prefixed
boxed_expression-returns-in-Prefixed t c =
    rw (is_prefixed _ _ _ c.in-Prefixed.is, ← c.deref-in-Prefixed.ensures) c.prefixed.ensures

pub boxed_expression-returns-in-StepBefore : goal.boxed_expression-returns-in-StepBefore
boxed_expression-returns-in-StepBefore t c =
    rw (is_step_before _ _ _ _ c.in-StepBefore.is, ← c.deref-in-StepBefore.ensures) c.step_before.ensures

pub boxed_expression-returns-in-StepAfter : goal.boxed_expression-returns-in-StepAfter
boxed_expression-returns-in-StepAfter t c =
    rw (is_step_after _ _ _ _ c.in-StepAfter.is, ← c.deref-in-StepAfter.ensures) c.step_after.ensures

pub boxed_expression-returns-in-Compare : goal.boxed_expression-returns-in-Compare
boxed_expression-returns-in-Compare t c =
    rw (is_compare _ _ _ _ c.in-Compare.is, ← c.deref-in-Compare.ensures, ← c.deref-in-Compare-2.ensures)
    c.compare.ensures

pub boxed_expression-returns-in-Equal : goal.boxed_expression-returns-in-Equal
boxed_expression-returns-in-Equal t c =
    rw (
      is_equal _ _ _ _ _ c.in-Equal.is,
      ← c.deref-in-Equal.ensures.value,
      ← c.deref-in-Equal-2.ensures,
      ← c.deref-in-Equal-3.ensures,
    ) c.equal.ensures

pub boxed_expression-returns-in-Assign : goal.boxed_expression-returns-in-Assign
boxed_expression-returns-in-Assign t c =
    rw (is_assign _ _ _ _ c.in-Assign.is, ← c.deref-in-Assign.ensures, ← c.deref-in-Assign-2.ensures) c.boxed_assignment.ensures

pub relative_of-returns : goal.relative_of-returns
relative_of-returns t c = kept_walked c.in_box.result _ c.in_box.ensures
    (rw (made_relative c.args.relative c.in-Ok.object)
    (one (values.relative c.args.relative) c.in-Ok.ensures))

pub properties-returns : goal.properties-returns
properties-returns t c = kept_walked c.in_box.result _ c.in_box.ensures
    (rw (made_property c.in-Ok.object c.property_of-number.result c.in-Ok-property_numbers.others)
    (properties_walked (seen_in c.args.scope.now)
    (trees.property (expression_tree c.args.object.now) (name_tree c.args.name.now)) c.args.others.now
    (values.property (value_of c.in-Ok.object.value) c.property_of-number.result)
    c.in-Ok-property_numbers.others.items
    (two values.property c.in-Ok.ensures c.property_of-number.ensures) c.in-Ok-property_numbers.ensures))

pub length_of-returns : goal.length_of-returns
length_of-returns t c = kept_walked c.in_box.result _ c.in_box.ensures
    (rw (made_property_size c.in-Ok.object c.property_of-number.result)
    (two values.property_size c.in-Ok.ensures c.property_of-number.ensures))

pub property_entry-returns : goal.property_entry-returns
property_entry-returns t c = kept_walked c.in_box.result _ c.in_box.ensures
    (rw (made_property_word c.in-Ok.object c.property_of-number.result c.in-Ok-boxed_expression.index)
    (three values.property_word c.in-Ok.ensures c.property_of-number.ensures c.in-Ok-boxed_expression.ensures))

pub contained-returns : goal.contained-returns
contained-returns t c = kept_walked c.in_box.result _ c.in_box.ensures
    (rw (made_contained c.in-Ok.left c.args.containment c.in-Ok-boxed_expression.right)
    (two (values.contained c.args.containment) c.in-Ok.ensures c.in-Ok-boxed_expression.ensures))

pub tested-returns : goal.tested-returns
tested-returns t c = kept_walked c.in_box.result _ c.in_box.ensures
    (rw c.tested_value.ensures.value
    (two (tested_for c.args.test) c.in-Ok.ensures
    (named_part (λ (found : Option Binding). found) (tested_breaches c.args.test c.args.name.now.position)
    c.look-found.result _ c.look-found.result c.look-found.ensures refl c.tested_value.ensures.breaches)))

pub prefixed-returns : goal.prefixed-returns
prefixed-returns t c = kept_walked c.in_box.result _ c.in_box.ensures
    (rw (made_prefixed c.args.prefix c.in-Ok.operand)
    (one (values.prefixed c.args.prefix) c.in-Ok.ensures))

pub step_before-returns : goal.step_before-returns
step_before-returns t c = kept_walked c.in_box.result _ c.in_box.ensures
    (rw (made_step_before c.args.step c.in-Ok.variable)
    (one (values.step_before c.args.step) c.in-Ok.ensures))

pub step_after-returns : goal.step_after-returns
step_after-returns t c = kept_walked c.in_box.result _ c.in_box.ensures
    (rw (made_step_after c.in-Ok.variable c.args.step)
    (one (λ x. values.step_after x c.args.step) c.in-Ok.ensures))

pub variable-returns-in_ok-boxed_expression-in-None : goal.variable-returns-in_ok-boxed_expression-in-None
variable-returns-in_ok-boxed_expression-in-None t c =
    let is : name_of (expression_tree c.args.e.now) ≡ None = sym c.name_of.ensures
    ∙ ap (option_map name_tree) c.in-None.is in
    rw is (record {
      value = refl;
      breaches = noted_two c.args.tally.now c.boxed_expression.new.tally c.note.new.tally
          (breaches (look_in c.args.scope.now) (expression_tree c.args.e.now)) (at c.args.operator 26)
          c.in_ok-boxed_expression-in-None.ensures.breaches c.note.ensures;
    })

pub call-returns : goal.call-returns
call-returns t c = kept_walked c.in_box.result _ c.in_box.ensures
    (rw (made_call c.routine_of-number.result c.in-Ok.given)
    (call_walked (seen_in c.args.scope.now) (name_tree c.args.name.now) c.routine_of-number.result
    (length c.args.given.now) _ c.args.given.now (map value_of c.in-Ok.given.items)
    refl refl c.routine_of-number.ensures.value c.routine_of-number.ensures.breaches c.in-Ok.ensures))

pub chain-returns : goal.chain-returns
chain-returns t c = kept_walked c.in_box.result _ c.in_box.ensures
    (rw (made_chain c.in-Ok.first c.args.operator c.in-Ok-boxed_expression.second c.in-Ok-chain_links.links)
    (chain_walked (seen_in c.args.scope.now)
    (trees.binary c.args.operator (expression_tree c.args.first.now) (expression_tree c.args.second.now))
    c.args.links.now
    (values.binary c.args.operator (value_of c.in-Ok.first.value) (value_of c.in-Ok-boxed_expression.second.value))
    (map value_link c.in-Ok-chain_links.links.items)
    (two (values.binary c.args.operator) c.in-Ok.ensures c.in-Ok-boxed_expression.ensures) c.in-Ok-chain_links.ensures))

pub compare-returns : goal.compare-returns
compare-returns t c = kept_walked c.in_box.result _ c.in_box.ensures
    (rw (made_compare c.in-Ok.left c.args.comparison c.in-Ok-boxed_expression.right)
    (two (values.compare c.args.comparison) c.in-Ok.ensures c.in-Ok-boxed_expression.ensures))

pub equal-returns : goal.equal-returns
equal-returns t c = kept_walked c.in_box.result _ c.in_box.ensures
    (rw (made_equal c.in-Ok.left c.args.equality c.in-Ok-boxed_expression.right c.in-Ok-all_expressions.others)
    (two (values.equal c.args.equality) c.in-Ok.ensures
    (two values.more c.in-Ok-boxed_expression.ensures
    (all_walked (seen_in c.args.scope.now) c.args.others.now (map value_of c.in-Ok-all_expressions.others.items)
    c.in-Ok-all_expressions.ensures))))

pub boxed_expression-returns-in-Index : goal.boxed_expression-returns-in-Index
boxed_expression-returns-in-Index t c = rw (is_index _ _ _ _ c.in-Index.is, ← c.deref-in-Index.ensures) c.index.ensures

pub index-returns : goal.index-returns
index-returns t c = kept_walked c.in_box.result _ c.in_box.ensures
    (rw (made_entry c.args.width c.array_of-number.result c.in-Ok.operand)
    (index_walked (seen_in c.args.scope.now) (name_tree c.args.name.now) c.args.width c.array_of-number.result _
    (expression_tree c.args.operand.now) (value_of c.in-Ok.operand.value)
    refl c.array_of-number.ensures.value c.array_of-number.ensures.breaches c.in-Ok.ensures))

pub left_side-returns-in-Some : goal.left_side-returns-in-Some
left_side-returns-in-Some t c =
    let is : name_of (expression_tree c.args.e.now) ≡ Some (name_tree c.in-Some.name) = sym c.name_of.ensures
    ∙ ap (option_map name_tree) c.in-Some.is in
    name_assigned (seen_in c.args.scope.now) c.args.operator (expression_tree c.args.e.now)
    (name_tree c.in-Some.name) _ (value_of c.left_name.result) is refl c.left_name.ensures.value
    c.left_name.ensures.breaches

pub left_side-returns-in_ok-left-in-None : goal.left_side-returns-in_ok-left-in-None
left_side-returns-in_ok-left-in-None t c =
    let is : name_of (expression_tree c.args.e.now) ≡ None = sym c.name_of.ensures
    ∙ ap (option_map name_tree) c.in-None.is in
    rw c.into_inner.ensures
    (part_assigned (seen_in c.args.scope.now) c.args.operator (expression_tree c.args.e.now) c.is_place.result
    (value_of c.in_ok-left-in-None.left.value) is c.is_place.ensures c.in_ok-left-in-None.ensures c.not_place.ensures)

pub assign-returns : goal.assign-returns
assign-returns t c = made_walked c.assignment.result c.assignment.ensures
    (two assigned c.in-Ok.ensures c.in-Ok-boxed_expression.ensures)

pub boxed_assignment-returns : goal.boxed_assignment-returns
boxed_assignment-returns t c = kept_walked c.in_box.result _ c.in_box.ensures c.in-Ok.ensures
