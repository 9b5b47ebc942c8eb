use Rattle.std.proofs.Common.{◌∙◌, ap}
use Rattle.syntax_lexer.specs.Token.{lexemes}
use Rattle.messages_advice.specs.declared.kinds.TokenKind.TheVariants as k
use Rattle.messages_advice.proofs.Tried.{turn_fits, turn_misfits}
use Rattle.messages_advice.proofs.fitting.fitting.Goals as goal
use Rattle.messages_advice.proofs.fitting.fitting.Goals.{then-branch+in_ok-push, else-branch}

pub loop-kind-preserved : goal.loop-kind-preserved
loop-kind-preserved c = elim c.if-branch.branch [
  | then-branch+in_ok-push w ↦ turn_fits (lexemes c.args.front.now) c.all_kinds-kind-items.result.now
      c.loop-kind.found.items c.if-branch.found.items c.loop-kind.kind-index k.Name c.in_ok-fits.field-0
      c.loop-kind-test.true c.loop-kind.invariant c.in_ok-fits.ensures w.if-branch.true
      (ap (λ v. v.items) w.found-is ∙ w.in_ok-push.ensures.items)
  | else-branch w ↦ turn_misfits (lexemes c.args.front.now) c.all_kinds-kind-items.result.now
      c.loop-kind.found.items c.if-branch.found.items c.loop-kind.kind-index k.Name c.in_ok-fits.field-0
      c.loop-kind-test.true c.loop-kind.invariant c.in_ok-fits.ensures w.if-branch.false
      (ap (λ v. v.items) w.found-is)
]
