use Rattle.std.proofs.Common.{◌≡◌, ◌+◌, nat_le, sym, ap, ◌∙◌, arith}
use Rattle.syntax_trees.specs.declared.tree.Expression.{Expression}
use Rattle.syntax_trees.specs.Tree as trees
use Rattle.syntax_trees.specs.Views.{expression_tree, name_tree}
use Rattle.checker_values.specs.Temporaries.{need}
use Rattle.checker_values.proofs.Shapes.{is_call, is_index, is_parenthesised, is_prefixed, is_step_before}
use Rattle.checker_values.proofs.Shapes.{is_step_after, is_chain, is_compare, is_assign, is_relative_of, is_property}
use Rattle.checker_values.proofs.Shapes.{is_property_length, is_property_entry, is_contained, is_tested}
use Rattle.checker_values.proofs.Needs.{need_one, one_need, both_next, both_bad, chain_next, chain_bad, properties_need}
use Rattle.checker_values.proofs.Needs.{left_none, left_next, left_bad, operands_next, operands_full, operands_bad}
use Rattle.checker_values.proofs.temporaries.+fits.Goals as goal
use Rattle.checker_values.proofs.temporaries.+fits.Goals.{operands_fit-then-left-eq0-via-then-left-eq0}
use Rattle.checker_values.proofs.temporaries.+fits.Goals.{operands_fit-then-left-eq0-via-else-left-eq0+then-not-fits}

pub assignment_fits-returns-then-before-eq0 : goal.assignment_fits-returns-then-before-eq0
assignment_fits-returns-then-before-eq0 t c =
    c.fits.ensures
    ∙ left_none (expression_tree c.args.left.now) (need (expression_tree c.args.right.now)) c.args.room
    c.left_operands-before.result (need_one (expression_tree c.args.right.now))
    (c.left_operands-before.ensures (need (expression_tree c.args.left.now))) c.if-before-eq0.true

pub assignment_fits-returns-then-fits : goal.assignment_fits-returns-then-fits
assignment_fits-returns-then-fits t c =
    c.fits-then-fits.ensures
    ∙ ap (λ r. nat_le (need (expression_tree c.args.right.now)) r) c.saturating_sub.ensures
    ∙ left_next (expression_tree c.args.left.now) (need (expression_tree c.args.right.now)) c.args.room
    c.left_operands-before.result (need_one (expression_tree c.args.right.now))
    (c.left_operands-before.ensures (need (expression_tree c.args.left.now))) (omega (arith, c.if-before-eq0.false))
    (sym c.fits-else-before-eq0.ensures ∙ c.if-fits.true)

pub assignment_fits-returns-else-fits : goal.assignment_fits-returns-else-fits
assignment_fits-returns-else-fits t c =
    c.if-fits.false
    ∙ left_bad (expression_tree c.args.left.now) (need (expression_tree c.args.right.now)) c.args.room
    c.left_operands-before.result (need_one (expression_tree c.args.right.now))
    (c.left_operands-before.ensures (need (expression_tree c.args.left.now))) (omega (arith, c.if-before-eq0.false))
    (sym c.fits-else-before-eq0.ensures ∙ c.if-fits.false)

pub both_fit-returns-then-fits : goal.both_fit-returns-then-fits
both_fit-returns-then-fits t c =
    let first = expression_tree c.args.first.now in
    let second = expression_tree c.args.second.now in
    c.fits-then-fits.ensures ∙ ap (λ r. nat_le (need second) r) c.saturating_sub.ensures
    ∙ both_next (need first) (need second) c.args.room (need_one first) (need_one second)
    (sym c.fits.ensures ∙ c.if-fits.true)

pub both_fit-returns-else-fits : goal.both_fit-returns-else-fits
both_fit-returns-else-fits t c =
    c.if-fits.false ∙ both_bad (need (expression_tree c.args.first.now)) (need (expression_tree c.args.second.now))
    c.args.room (sym c.fits.ensures ∙ c.if-fits.false)

pub fits-returns-in-Call : goal.fits-returns-in-Call
fits-returns-in-Call t c =
    let v = c.in-Call in
    rw (is_call c.args.expression.now v.field-0 v.arguments v.is, ← c.deref.ensures.value) c.operands_fit.ensures

pub fits-returns-in-Parenthesised : goal.fits-returns-in-Parenthesised
fits-returns-in-Parenthesised t c =
    let v = c.in-Parenthesised in
    rw (is_parenthesised c.args.expression.now v.inside v.is, ← c.deref-in-Parenthesised.ensures)
    c.fits-in-Parenthesised.ensures

pub fits-returns-in-Index : goal.fits-returns-in-Index
fits-returns-in-Index t c =
    let v = c.in-Index in
    rw (is_index c.args.expression.now v.field-0 v.field-1 v.index v.is)
    (c.fits.ensures ∙ ap (λ (y : Expression). nat_le (need (expression_tree y)) c.args.room)
    c.deref-in-Index.ensures
    ∙ ap (λ n. nat_le n c.args.room) (sym (one_need (expression_tree v.index.value))))

pub fits-returns-in-Compare : goal.fits-returns-in-Compare
fits-returns-in-Compare t c =
    let v = c.in-Compare in
    rw (
      is_compare c.args.expression.now v.left v.field-1 v.right v.is,
      ← c.deref-in-Compare.ensures,
      ←
          c.deref-in-Compare-2.ensures,
    ) c.both_fit-in-Compare.ensures

pub fits-returns-in-Assign : goal.fits-returns-in-Assign
fits-returns-in-Assign t c =
    let v = c.in-Assign in
    rw (
      is_assign c.args.expression.now v.left v.field-1 v.right v.is,
      ← c.deref-in-Assign.ensures,
      ←
          c.deref-in-Assign-2.ensures,
    ) c.assignment_fits.ensures

pub fits-returns-in-RelativeOf : goal.fits-returns-in-RelativeOf
fits-returns-in-RelativeOf t c =
    let v = c.in-RelativeOf in
    rw (is_relative_of c.args.expression.now v.field-0 v.object v.is)
    (c.fits-in-RelativeOf.ensures ∙ ap (λ (y : Expression). nat_le (need (expression_tree y)) c.args.room)
    c.deref-in-RelativeOf.ensures
    ∙ ap (λ n. nat_le n c.args.room) (sym (one_need (expression_tree v.object.value))))

pub fits-returns-in-Property : goal.fits-returns-in-Property
fits-returns-in-Property t c =
    let v = c.in-Property in
    let object = expression_tree v.object.value in
    rw (is_property c.args.expression.now v.object v.field-1 v.field-2 v.is)
    (c.fits-in-Property.ensures ∙ ap (λ (y : Expression). nat_le (need (expression_tree y)) c.args.room)
    c.deref-in-Property.ensures
    ∙ ap (λ n. nat_le n c.args.room)
    (sym (properties_need (trees.property object (name_tree v.field-1.value)) v.field-2.items ∙ one_need object)))

pub fits-returns-in-PropertyLength : goal.fits-returns-in-PropertyLength
fits-returns-in-PropertyLength t c =
    let v = c.in-PropertyLength in
    rw (is_property_length c.args.expression.now v.object v.field-1 v.is)
    (c.fits-in-PropertyLength.ensures ∙ ap (λ (y : Expression). nat_le (need (expression_tree y)) c.args.room)
    c.deref-in-PropertyLength.ensures
    ∙ ap (λ n. nat_le n c.args.room) (sym (one_need (expression_tree v.object.value))))

pub fits-returns-in-PropertyEntry : goal.fits-returns-in-PropertyEntry
fits-returns-in-PropertyEntry t c =
    let v = c.in-PropertyEntry in
    rw (
      is_property_entry c.args.expression.now v.object v.field-1 v.index v.is,
      ← c.deref-in-PropertyEntry.ensures,
      ← c.deref-in-PropertyEntry-2.ensures,
    ) c.both_fit.ensures

pub fits-returns-in-Contained : goal.fits-returns-in-Contained
fits-returns-in-Contained t c =
    let v = c.in-Contained in
    rw (
      is_contained c.args.expression.now v.left v.field-1 v.right v.is,
      ← c.deref-in-Contained.ensures,
      ← c.deref-in-Contained-2.ensures,
    ) c.both_fit-in-Contained.ensures

pub fits-returns-in-Tested : goal.fits-returns-in-Tested
fits-returns-in-Tested t c =
    let v = c.in-Tested in
    rw (is_tested c.args.expression.now v.object v.field-1 v.field-2 v.is)
    (c.fits-in-Tested.ensures ∙ ap (λ (y : Expression). nat_le (need (expression_tree y)) c.args.room)
    c.deref-in-Tested.ensures
    ∙ ap (λ n. nat_le n c.args.room) (sym (one_need (expression_tree v.object.value))))

pub fits-returns-in-Prefixed : goal.fits-returns-in-Prefixed
fits-returns-in-Prefixed t c =
    let v = c.in-Prefixed in
    rw (is_prefixed c.args.expression.now v.field-0 v.operand v.is)
    (c.fits-in-Prefixed.ensures ∙ ap (λ (y : Expression). nat_le (need (expression_tree y)) c.args.room)
    c.deref-in-Prefixed.ensures
    ∙ ap (λ n. nat_le n c.args.room) (sym (one_need (expression_tree v.operand.value))))

pub fits-returns-in-StepBefore : goal.fits-returns-in-StepBefore
fits-returns-in-StepBefore t c =
    let v = c.in-StepBefore in
    rw (is_step_before c.args.expression.now v.field-0 v.field-1 v.operand v.is)
    (c.fits-in-StepBefore.ensures ∙ ap (λ (y : Expression). nat_le (need (expression_tree y)) c.args.room)
    c.deref-in-StepBefore.ensures
    ∙ ap (λ n. nat_le n c.args.room) (sym (one_need (expression_tree v.operand.value))))

pub fits-returns-in-StepAfter : goal.fits-returns-in-StepAfter
fits-returns-in-StepAfter t c =
    let v = c.in-StepAfter in
    rw (is_step_after c.args.expression.now v.operand v.field-1 v.field-2 v.is)
    (c.fits-in-StepAfter.ensures ∙ ap (λ (y : Expression). nat_le (need (expression_tree y)) c.args.room)
    c.deref-in-StepAfter.ensures
    ∙ ap (λ n. nat_le n c.args.room) (sym (one_need (expression_tree v.operand.value))))

pub fits-returns-then-both_fit : goal.fits-returns-then-both_fit
fits-returns-then-both_fit t c =
    let v = c.in-Chain in
    rw (
      is_chain c.args.expression.now v.first v.field-1 v.second v.links v.is,
      ← c.deref-in-Chain.ensures,
      ←
          c.deref-in-Chain-2.ensures,
      ← c.deref-then-both_fit.ensures.value,
    )
    (c.links_fit.ensures
    ∙ chain_next
    (trees.binary v.field-1 (expression_tree c.deref-in-Chain.result.now)
    (expression_tree c.deref-in-Chain-2.result.now)) c.deref-then-both_fit.result.now c.args.room
    (sym c.both_fit-in-Chain.ensures ∙ c.if-both_fit.true))

pub fits-returns-else-both_fit : goal.fits-returns-else-both_fit
fits-returns-else-both_fit t c =
    let v = c.in-Chain in
    rw (
      is_chain c.args.expression.now v.first v.field-1 v.second v.links v.is,
      ← c.deref-in-Chain.ensures,
      ←
          c.deref-in-Chain-2.ensures,
    )
    (c.if-both_fit.false
    ∙ chain_bad
    (trees.binary v.field-1 (expression_tree c.deref-in-Chain.result.now)
    (expression_tree c.deref-in-Chain-2.result.now)) v.links.items c.args.room
    (sym c.both_fit-in-Chain.ensures ∙ c.if-both_fit.false))

pub operands_fit-returns-then-left-eq0 : goal.operands_fit-returns-then-left-eq0
operands_fit-returns-then-left-eq0 t c =
    elim c.then-left-eq0.branch [
      | operands_fit-then-left-eq0-via-then-left-eq0 w ↦ sym
          (operands_full (c.args.before + c.loop-operand.operand-index) c.args.room c.args.given.now
          c.loop-operand.operand-index c.operand-item.result c.loop-operand-test.true c.operand-item.is
          (sym c.loop-operand.invariant.room ∙ w.if-left-eq0.true)) ∙ c.loop-operand.invariant.same
      | operands_fit-then-left-eq0-via-else-left-eq0+then-not-fits w ↦ sym
          (operands_bad (c.args.before + c.loop-operand.operand-index) c.args.room c.loop-operand.left
          c.args.given.now c.loop-operand.operand-index c.operand-item.result c.loop-operand-test.true
          c.operand-item.is c.loop-operand.invariant.room (sym w.fits.ensures ∙ w.if-not-fits.true))
          ∙ c.loop-operand.invariant.same
    ]

pub operands_fit-loop-operand-preserved : goal.operands_fit-loop-operand-preserved
operands_fit-loop-operand-preserved t c =
    let here = c.args.before + c.loop-operand.operand-index in
    let on : c.args.before + (c.loop-operand.operand-index + 1) ≡ here + 1 = omega arith in
    record {
      room = omega (arith, c.loop-operand.invariant.room);
      same = rw on
          (sym (operands_next here c.args.room c.loop-operand.left c.args.given.now c.loop-operand.operand-index
          c.operand-item.result c.loop-operand-test.true c.operand-item.is c.loop-operand.invariant.room
          (sym c.fits.ensures ∙ c.if-not-fits.false)) ∙ c.loop-operand.invariant.same);
    }
