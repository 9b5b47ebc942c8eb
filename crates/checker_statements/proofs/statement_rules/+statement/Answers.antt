use Rattle.std.proofs.Common.{◌≡◌, ◌+◌, Option, None, sym, ap, ◌∙◌, drop, arith}
use Rattle.std.specs.Global.{Vec}
use Rattle.std.specs.Prelude.{map}
use Rattle.std.specs.List.{flat_map}
use Rattle.syntax_trees.specs.Views.{name_tree, expression_tree}
use Rattle.syntax_statements.specs.declared.part_tree.Range.{Range}
use Rattle.syntax_statements.specs.PartTree.{over_in, over_where}
use Rattle.syntax_statements.specs.PartViews.{loop_tree}
use Rattle.syntax_statements.specs.declared.tree.Statement.{Statement}
use Rattle.syntax_statements.specs.Views.{other_tree}
use Rattle.meaning.specs.declared.resolved.Action.TheVariants as done
use Rattle.meaning.specs.Resolved as values
use Rattle.meaning.specs.Resolved.{Value, Action}
use Rattle.meaning.specs.Views.{boxed_value, action_of, case_of, other_of}
use Rattle.meaning.proofs.Switches.{made_switch}
use Rattle.checker_values.specs.declared.noting.Tally.{Tally}
use Rattle.checker_values.specs.Noted.{noted}
use Rattle.checker_values.specs.Scope.{seen_in}
use Rattle.checker_values.proofs.Each.{each_next, each_end, value_next, value_end}
use Rattle.checker_values.proofs.Walks.{leaf, one, two}
use Rattle.checker_statements.specs.Guarded.{acted}
use Rattle.checker_statements.specs.StatementWalk.{resolved_statement, own_statement_breaches, resolved_case}
use Rattle.checker_statements.specs.StatementWalk.{own_case_breaches}
use Rattle.checker_statements.proofs.Shapes.{is_simple_statement, is_block_statement, is_if_statement}
use Rattle.checker_statements.proofs.Shapes.{is_if_else_statement, is_while_statement, is_do_statement}
use Rattle.checker_statements.proofs.Shapes.{is_for_statement, is_objectloop_statement, is_switch_statement}
use Rattle.checker_statements.proofs.MadeStatements.{made_block, made_if_else, made_do, made_for, made_each_object}
use Rattle.checker_statements.proofs.StatementForms.{kept_action, empty_walked, statements_walked, case_walked}
use Rattle.checker_statements.proofs.StatementForms.{other_walked, switch_walked, guarded_walked}
use Rattle.checker_statements.proofs.statement_rules.+statement.Goals as goal

abbrev pair : Action → Action → Action × Action
pair a b = (a, b)

pub boxed_statement-returns : goal.boxed_statement-returns
boxed_statement-returns t c = rw (← c.deref.ensures)
    (kept_action c.in_box.result c.in-Ok.found c.in_box.ensures c.in-Ok.ensures)

pub all_statements-loop-s-preserved : goal.all_statements-loop-s-preserved
all_statements-loop-s-preserved t c =
    let f = λ (x : Statement). own_statement_breaches (seen_in c.args.scope.now) c.args.around x in
    let g = λ (x : Statement). resolved_statement (seen_in c.args.scope.now) x in
    record {
      value = rw c.push_reserved-in-loop-s.ensures.items
          (value_next f g action_of c.loop-s.found.items c.in-Ok.resolved c.args.all.now c.loop-s.s-index
          c.s-item.result c.loop-s-test.true c.s-item.is c.loop-s.invariant.value c.in-Ok.ensures.value);
      tally = rw c.in-Ok.ensures.breaches
          (sym (each_next f g action_of c.loop-s.tally c.args.all.now c.loop-s.s-index c.s-item.result
          c.loop-s-test.true c.s-item.is) ∙ c.loop-s.invariant.tally);
      count = omega (arith, c.push_reserved-in-loop-s.ensures.len, c.loop-s.invariant.count);
      room = omega (arith, c.push_reserved-in-loop-s.ensures.capacity, c.loop-s.invariant.room);
    }

pub all_statements-loop-s-preserved-then-is_empty : goal.all_statements-loop-s-preserved-then-is_empty
all_statements-loop-s-preserved-then-is_empty t c =
    let f = λ (x : Statement). own_statement_breaches (seen_in c.args.scope.now) c.args.around x in
    let g = λ (x : Statement). resolved_statement (seen_in c.args.scope.now) x in
    let none = empty_walked (seen_in c.args.scope.now) c.args.around c.s-item.result c.loop-s.tally
    (c.is_empty.ensures c.if-is_empty.true) in
    record {
      value = rw c.push_reserved.ensures.items
          (value_next f g action_of c.loop-s.found.items done.Empty c.args.all.now c.loop-s.s-index
          c.s-item.result c.loop-s-test.true c.s-item.is c.loop-s.invariant.value none.value);
      tally = ap (λ (m : Tally). noted m (flat_map f (drop (c.loop-s.s-index + 1) c.args.all.now))) none.breaches
          ∙ sym (each_next f g action_of c.loop-s.tally c.args.all.now c.loop-s.s-index c.s-item.result
          c.loop-s-test.true c.s-item.is) ∙ c.loop-s.invariant.tally;
      count = omega (arith, c.push_reserved.ensures.len, c.loop-s.invariant.count);
      room = omega (arith, c.push_reserved.ensures.capacity, c.loop-s.invariant.room);
    }

pub all_statements-returns : goal.all_statements-returns
all_statements-returns t c =
    let f = λ (x : Statement). own_statement_breaches (seen_in c.args.scope.now) c.args.around x in
    let g = λ (x : Statement). resolved_statement (seen_in c.args.scope.now) x in
    record {
      value = c.loop-s.invariant.value ∙ value_end f g action_of c.args.all.now c.loop-s.s-index c.loop-s-test.false;
      breaches = sym (each_end f g action_of c.loop-s.tally c.args.all.now c.loop-s.s-index c.loop-s-test.false)
          ∙ c.loop-s.invariant.tally;
    }

pub block-returns : goal.block-returns
block-returns t c =
    rw (made_block c.in-Ok.found, ← c.deref.ensures.value)
    (one values.block
    (statements_walked (seen_in c.args.scope.now) c.args.around c.deref.result.now (map action_of c.in-Ok.found.items)
    c.in-Ok.ensures))

pub guarded-returns : goal.guarded-returns
guarded-returns t c = rw c.guarded_action.ensures
    (two (acted c.args.guard) c.in-Ok.ensures c.in-Ok-boxed_statement.ensures)

pub if_else-returns : goal.if_else-returns
if_else-returns t c =
    rw (made_if_else c.in-Ok.condition c.in-Ok-boxed_statement.first c.in-Ok-boxed_statement-2.otherwise)
    (two (λ v (ab : Action × Action). values.if_else v ab.0 ab.1) c.in-Ok.ensures
    (two pair c.in-Ok-boxed_statement.ensures c.in-Ok-boxed_statement-2.ensures))

pub do_until-returns : goal.do_until-returns
do_until-returns t c around = rw (made_do c.in-Ok.body c.in-Ok-boxed_whole.condition)
    (two values.do_until c.in-Ok.ensures c.in-Ok-boxed_whole.ensures)

pub for_loop-returns : goal.for_loop-returns
for_loop-returns t c around = rw (
  made_for c.in-Ok.before c.in-Ok.test c.in-Ok.after c.in-Ok-boxed_statement.body,
  ← c.deref.ensures,
)
    (two (λ (h : Option Value × Option Value × Option Value) (x : Action). values.for_loop h.0 h.1 h.2 x)
    c.in-Ok.ensures c.in-Ok-boxed_statement.ensures)

pub all_cases-loop-c-preserved : goal.all_cases-loop-c-preserved
all_cases-loop-c-preserved t c =
    let f = λ (x : Vec Range × Vec Statement). own_case_breaches (seen_in c.args.scope.now) c.args.around x in
    let g = λ (x : Vec Range × Vec Statement). resolved_case (seen_in c.args.scope.now) x in
    let one_more = case_walked (seen_in c.args.scope.now) c.args.around c.c-item.result c.in-Ok.spans
    c.in-Ok-all_statements.body c.ranges_of.result.now c.body_of.result.now c.ranges_of.ensures c.body_of.ensures
    c.in-Ok.ensures c.in-Ok-all_statements.ensures in
    record {
      value = rw c.push_reserved.ensures.items
          (value_next f g case_of c.loop-c.found.items (c.in-Ok.spans, c.in-Ok-all_statements.body) c.args.given.now
          c.loop-c.c-index c.c-item.result c.loop-c-test.true c.c-item.is c.loop-c.invariant.value one_more.value);
      tally = rw one_more.breaches
          (sym (each_next f g case_of c.loop-c.tally c.args.given.now c.loop-c.c-index c.c-item.result
          c.loop-c-test.true c.c-item.is) ∙ c.loop-c.invariant.tally);
      count = omega (arith, c.push_reserved.ensures.len, c.loop-c.invariant.count);
      room = omega (arith, c.push_reserved.ensures.capacity, c.loop-c.invariant.room);
    }

pub all_cases-returns : goal.all_cases-returns
all_cases-returns t c =
    let f = λ (x : Vec Range × Vec Statement). own_case_breaches (seen_in c.args.scope.now) c.args.around x in
    let g = λ (x : Vec Range × Vec Statement). resolved_case (seen_in c.args.scope.now) x in
    record {
      value = c.loop-c.invariant.value ∙ value_end f g case_of c.args.given.now c.loop-c.c-index c.loop-c-test.false;
      breaches = sym (each_end f g case_of c.loop-c.tally c.args.given.now c.loop-c.c-index c.loop-c-test.false)
          ∙ c.loop-c.invariant.tally;
    }

pub otherwise-returns-in-None : goal.otherwise-returns-in-None
otherwise-returns-in-None t c = rw c.in-None.is (leaf c.args.tally.now None)

pub otherwise-returns-in-Ok : goal.otherwise-returns-in-Ok
otherwise-returns-in-Ok t c = rw c.in-Some.is
    (other_walked (seen_in c.args.scope.now) c.args.around c.deref.result.now c.in-Some.all.items
    (map action_of c.in-Ok.found.items) c.deref.ensures.value c.in-Ok.ensures)

pub switch_on-returns : goal.switch_on-returns
switch_on-returns t c around is = rw (
  made_switch c.in-Ok.value c.in-Ok-in_box.cases,
  c.in-Ok-in_box.ensures,
  ← c.deref.ensures.value,
) (switch_walked (seen_in c.args.scope.now) around c.args.inside c.args.position
    (expression_tree c.args.value.now.value)
    (boxed_value c.in-Ok.value) c.deref.result.now (other_tree c.args.cases.now.1)
    (map case_of c.in-Ok-all_cases.found.items) (other_of c.in-Ok-otherwise.other) is c.in-Ok.ensures
    c.in-Ok-all_cases.ensures c.in-Ok-otherwise.ensures)

pub each-returns : goal.each-returns
each-returns t c around = rw (made_each_object c.variable_of-variable.result c.in-Ok.body)
    (two values.each_object c.variable_of-variable.ensures c.in-Ok.ensures)

pub statement-returns-in-Do : goal.statement-returns-in-Do
statement-returns-in-Do t c = let v = c.in-Do in
    rw (is_do_statement c.args.s.now v.position v.body v.condition v.is)
    (c.do_until.ensures c.args.around)

pub statement-returns-in-For : goal.statement-returns-in-For
statement-returns-in-For t c = let v = c.in-For in
    rw (is_for_statement c.args.s.now v.position v.parts v.body v.is)
    (c.for_loop.ensures c.args.around)

pub statement-returns-in-Switch : goal.statement-returns-in-Switch
statement-returns-in-Switch t c = let v = c.in-Switch in
    rw (
      is_switch_statement c.args.s.now v.position v.value v.cases v.is,
      ← c.deref-in-Switch.ensures,
    )
    (c.switch_on.ensures c.args.around c.in_switch.ensures)

pub statement-returns-in-Block : goal.statement-returns-in-Block
statement-returns-in-Block t c = let v = c.in-Block in
    rw (is_block_statement c.args.s.now v.all v.is) c.block.ensures

pub statement-returns-in-If : goal.statement-returns-in-If
statement-returns-in-If t c = let v = c.in-If in
    rw (is_if_statement c.args.s.now v.position v.condition v.then v.is) c.guarded.ensures

pub statement-returns-in-IfElse : goal.statement-returns-in-IfElse
statement-returns-in-IfElse t c = let v = c.in-IfElse in
    rw (is_if_else_statement c.args.s.now v.position v.condition v.then v.otherwise v.is)
    c.if_else.ensures

pub statement-returns-in-While : goal.statement-returns-in-While
statement-returns-in-While t c = let v = c.in-While in
    rw (is_while_statement c.args.s.now v.position v.condition v.body v.is)
    c.guarded-in-While.ensures

pub statement-returns-in-Empty : goal.statement-returns-in-Empty
statement-returns-in-Empty t c =
    empty_walked (seen_in c.args.scope.now) c.args.around c.args.s.now c.args.tally.now c.in-Empty.is

pub statement-returns-in-Simple : goal.statement-returns-in-Simple
statement-returns-in-Simple t c = rw
    (is_simple_statement c.args.s.now c.in-Simple.plain c.in-Simple.is) c.simple.ensures

pub statement-returns-in-Objectloop : goal.statement-returns-in-Objectloop
statement-returns-in-Objectloop t c = let v = c.in-Objectloop in
    rw (is_objectloop_statement c.args.s.now v.position v.over v.body v.is, ← c.deref.ensures)
    (c.traversal.ensures c.args.around)

pub traversal-returns-in-All : goal.traversal-returns-in-All
traversal-returns-in-All t c around = rw c.in-All.is (c.each.ensures around)

pub traversal-returns-in-In : goal.traversal-returns-in-In
traversal-returns-in-In t c around = let v = c.in-In in
    let is : loop_tree c.args.over.now ≡ over_in (name_tree v.name) (expression_tree v.parent.value)
    = ap loop_tree v.is in
    rw is (guarded_walked values.each_in _ _ _ _ _ c.variable_of.ensures c.guarded.ensures)

pub traversal-returns-in-Where : goal.traversal-returns-in-Where
traversal-returns-in-Where t c around = let v = c.in-Where in
    let is : loop_tree c.args.over.now ≡ over_where (name_tree v.name) (expression_tree v.condition.value)
    = ap loop_tree v.is in
    rw is (guarded_walked values.each_where _ _ _ _ _ c.variable_of-in-Where.ensures
    c.guarded-in-Where.ensures)
