use Rattle.std.proofs.Common.{sym, ◌∙◌, arith, inl, inr}
use Rattle.std.proofs.lemmas.Result.{err_from_is_err_and}
use Rattle.syntax_trees.specs.Tree.{property}
use Rattle.syntax_trees.specs.Views.{name_tree, expression_tree}
use Rattle.syntax_trees.specs.Returned.{ahead}
use Rattle.syntax_expressions.proofs.Built.{properties_built}
use Rattle.syntax_expressions.proofs.PropertyParts.{properties_none, properties_begin, properties_begin_fails}
use Rattle.syntax_expressions.proofs.PropertyParts.{properties_next, properties_fail, properties_read}
use Rattle.syntax_expressions.proofs.parts.properties.Goals.{else-loop-turn-test}
use Rattle.syntax_expressions.proofs.parts.properties.Goals.{then-loop-turn-test+then-not-is_sign-2}
use Rattle.syntax_expressions.proofs.parts.properties.Goals as goal

pub returns-then-not-is_sign : goal.returns-then-not-is_sign
returns-then-not-is_sign c = properties_none (expression_tree c.args.owner.value) (ahead c.args.parser.now)
    (grind arith)

pub returns-in_err-first : goal.returns-in_err-first
returns-in_err-first c =
    let p = err_from_is_err_and c.from_residual.result c.from_residual.ensures.1 in
    rw (p.1, p.2)
    (properties_begin_fails c.in_err-first.field-0.0 (expression_tree c.args.owner.value) c.args.parser.now.tokens.now
    _ (grind arith) c.pass.ensures c.in_err-first.ensures)

pub loop-turn-init : goal.loop-turn-init
loop-turn-init c =
    rw c.new-others.ensures.items
    (properties_begin (expression_tree c.args.owner.value) c.in_ok-first.first c.args.parser.now.tokens.now
    _ _ (grind arith) c.pass.ensures c.in_ok-first.ensures)

pub returns-in_err-next : goal.returns-in_err-next
returns-in_err-next c =
    let p = err_from_is_err_and c.from_residual-in_err-next.result c.from_residual-in_err-next.ensures.1 in
    rw (p.1, p.2)
    (properties_fail c.in_err-next.field-0.0 _ c.loop-turn._turn _ (ahead c.loop-turn.parser)
    _ _ c.loop-turn-test.true (grind arith) c.pass-in-loop-turn.ensures
    c.in_err-next.ensures c.loop-turn.invariant)

pub loop-turn-preserved : goal.loop-turn-preserved
loop-turn-preserved c =
    rw c.in_ok-push.ensures.items
    (sym (properties_next _ c.loop-turn._turn
    (property (expression_tree c.args.owner.value) (name_tree c.in_ok-first.first)) c.loop-turn.others.items
    c.in_ok-next.next (ahead c.loop-turn.parser) _
    _ c.loop-turn-test.true (grind arith) c.pass-in-loop-turn.ensures
    c.in_ok-next.ensures)
    ∙ c.loop-turn.invariant)

pub returns : goal.returns
returns c = rw
    (properties_read _ c.loop-turn._turn _ (ahead c.loop-turn.parser) _ c.loop-turn.invariant
    (elim c.loop-turn-test.branch [
      | else-loop-turn-test q ↦ inl q.loop-turn-test.false
      | then-loop-turn-test+then-not-is_sign-2 q ↦ inr (grind arith)
    ]))
    (rw (properties_built c.args.owner c.in_ok-name.name c.loop-turn.others, c.in_ok-name.ensures.ok) at
    c.in_box-2.ensures)
