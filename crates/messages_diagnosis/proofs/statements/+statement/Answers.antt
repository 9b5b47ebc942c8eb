use Rattle.std.proofs.Common.{List, sym, ap, ◌∙◌}
use Rattle.std.specs.List.{flat_map}
use Rattle.syntax_statements.specs.PartViews.{loop_tree}
use Rattle.syntax_statements.specs.declared.tree.Statement.{Statement}
use Rattle.syntax_statements.specs.Views.{statement_tree, other_tree}
use Rattle.checker_statements.proofs.Shapes.{is_block_statement, is_if_statement}
use Rattle.checker_statements.proofs.Shapes.{is_if_else_statement, is_while_statement, is_do_statement}
use Rattle.checker_statements.proofs.Shapes.{is_for_statement, is_objectloop_statement, is_switch_statement}
use Rattle.checker_statements.proofs.Shapes.{is_empty_statement}
use Rattle.messages_diagnosis.specs.Walk.{raised_all, own_needs, own_case_needs}
use Rattle.messages_diagnosis.proofs.Raising.{raised_none, raised_two}
use Rattle.messages_diagnosis.proofs.Each.{each_next, each_end, statements_need, case_need, cases_need, loop_need}
use Rattle.messages_diagnosis.proofs.statements.+statement.Goals as goal

pub all_cases-loop-case-preserved : goal.all_cases-loop-case-preserved
all_cases-loop-case-preserved t c =
    let l = c.loop-case in
    each_next own_case_needs l.sought c.sequence.new.sought c.args.cases.now l.case-index c.case-item.result
    c.loop-case-test.true c.case-item.is
    (c.sequence.ensures ∙ ap (raised_all l.sought)
    (case_need c.case-item.result c.deref.result.now c.deref.ensures.value))
    ∙ l.invariant

pub all_cases-returns : goal.all_cases-returns
all_cases-returns t c =
    let l = c.loop-case in
    sym (each_end own_case_needs l.sought c.args.cases.now l.case-index c.loop-case-test.false) ∙ l.invariant

pub otherwise_of-returns-in-None : goal.otherwise_of-returns-in-None
otherwise_of-returns-in-None t c = rw c.in-None.is (sym (raised_none c.args.sought.now))

pub otherwise_of-returns-in-Some : goal.otherwise_of-returns-in-Some
otherwise_of-returns-in-Some t c =
    rw c.in-Some.is
    (c.sequence.ensures
    ∙ ap (λ (ss : List Statement). raised_all c.args.sought.now (flat_map own_needs ss)) c.deref.ensures.value
    ∙ ap (raised_all c.args.sought.now) (sym (statements_need c.in-Some.all.items)))

pub sequence-loop-s-preserved : goal.sequence-loop-s-preserved
sequence-loop-s-preserved t c =
    let l = c.loop-s in
    each_next own_needs l.sought c.statement.new.sought c.args.all.now l.s-index c.s-item.result c.loop-s-test.true
    c.s-item.is c.statement.ensures
    ∙ l.invariant

pub sequence-returns : goal.sequence-returns
sequence-returns t c =
    let l = c.loop-s in
    sym (each_end own_needs l.sought c.args.all.now l.s-index c.loop-s-test.false) ∙ l.invariant

pub statement-returns-in-Empty : goal.statement-returns-in-Empty
statement-returns-in-Empty t c = rw (is_empty_statement c.args.s.now c.in-Empty.is)
    (sym (raised_none c.args.sought.now))

pub statement-returns-in-Block : goal.statement-returns-in-Block
statement-returns-in-Block t c =
    let v = c.in-Block in
    rw (is_block_statement c.args.s.now v.all v.is, ← c.deref.ensures.value)
    (c.sequence.ensures ∙ ap (raised_all c.args.sought.now) (sym (statements_need c.deref.result.now)))

pub statement-returns-in-If : goal.statement-returns-in-If
statement-returns-in-If t c =
    let v = c.in-If in
    rw (
      is_if_statement c.args.s.now v.position v.condition v.then v.is,
      ← c.deref-in-If.ensures,
      ← c.deref-in-If-2.ensures,
    )
    (raised_two _ _ _ _ _ c.whole.ensures c.statement.ensures)

pub statement-returns-in-IfElse : goal.statement-returns-in-IfElse
statement-returns-in-IfElse t c =
    let v = c.in-IfElse in
    rw (
      is_if_else_statement c.args.s.now v.position v.condition v.then v.otherwise v.is,
      ← c.deref-in-IfElse.ensures,
      ← c.deref-in-IfElse-2.ensures,
      ← c.deref-in-IfElse-3.ensures,
    )
    (raised_two _ _ _ _ _ c.whole-in-IfElse.ensures
    (raised_two _ _ _ _ _ c.statement-in-IfElse.ensures c.statement-in-IfElse-2.ensures))

pub statement-returns-in-While : goal.statement-returns-in-While
statement-returns-in-While t c =
    let v = c.in-While in
    rw (
      is_while_statement c.args.s.now v.position v.condition v.body v.is,
      ← c.deref-in-While.ensures,
      ← c.deref-in-While-2.ensures,
    )
    (raised_two _ _ _ _ _ c.whole-in-While.ensures c.statement-in-While.ensures)

pub statement-returns-in-Do : goal.statement-returns-in-Do
statement-returns-in-Do t c =
    let v = c.in-Do in
    rw (
      is_do_statement c.args.s.now v.position v.body v.condition v.is,
      ← c.deref-in-Do.ensures,
      ← c.deref-in-Do-2.ensures,
    )
    (raised_two _ _ _ _ _ c.whole-in-Do.ensures c.statement-in-Do.ensures)

pub statement-returns-in-For : goal.statement-returns-in-For
statement-returns-in-For t c =
    let v = c.in-For in
    rw (
      is_for_statement c.args.s.now v.position v.heading v.body v.is,
      ← c.deref-in-For.ensures,
      ← c.deref-in-For-2.ensures,
    )
    (raised_two _ _ _ _ _ c.of_heading.ensures c.statement-in-For.ensures)

pub statement-returns-in-Objectloop : goal.statement-returns-in-Objectloop
statement-returns-in-Objectloop t c =
    let v = c.in-Objectloop in
    let body = statement_tree c.deref-in-Objectloop-2.result.now in
    rw (
      is_objectloop_statement c.args.s.now v.position v.over v.body v.is,
      ← c.deref-in-Objectloop.ensures,
      ← c.deref-in-Objectloop-2.ensures,
    )
    (raised_two _ _ _ _ _ c.of_loop.ensures c.statement-in-Objectloop.ensures
    ∙ ap (raised_all c.args.sought.now)
    (sym (loop_need v.position (loop_tree c.deref-in-Objectloop.result.now) body)))

pub statement-returns-in-Switch : goal.statement-returns-in-Switch
statement-returns-in-Switch t c =
    let v = c.in-Switch in
    rw (
      is_switch_statement c.args.s.now v.position v.value v.cases v.is,
      ← c.deref-in-Switch.ensures,
      ← c.deref-in-Switch-2.ensures,
    )
    (raised_two _ _ _ _ _ c.whole-in-Switch.ensures c.choices.ensures)

pub choices-returns : goal.choices-returns
choices-returns t c =
    rw (← c.deref.ensures.value)
    (raised_two _ _ _ _ _ c.all_cases.ensures c.otherwise_of.ensures
    ∙ ap (raised_all c.args.sought.now) (sym (cases_need c.deref.result.now (other_tree c.args.cases.now.1))))
