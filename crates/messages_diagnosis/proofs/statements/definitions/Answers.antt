use Rattle.std.proofs.Common.{sym, ◌∙◌}
use Rattle.messages_diagnosis.specs.Walk.{own_directive_needs}
use Rattle.messages_diagnosis.proofs.Each.{each_next, each_end}
use Rattle.messages_diagnosis.proofs.statements.definitions.Goals as goal

pub loop-definition-preserved : goal.loop-definition-preserved
loop-definition-preserved c =
    let l = c.loop-definition in
    each_next own_directive_needs l.sought c.directive.new.sought c.args.all.now l.definition-index
    c.definition-item.result c.loop-definition-test.true c.definition-item.is c.directive.ensures
    ∙ l.invariant

pub returns : goal.returns
returns c =
    let l = c.loop-definition in
    sym (each_end own_directive_needs l.sought c.args.all.now l.definition-index c.loop-definition-test.false)
    ∙ l.invariant
