use Rattle.checker_statements.specs.Objects.{all_defaults}
use Rattle.checker_statements.proofs.Chains.{default_next, default_end}
use Rattle.checker_statements.proofs.defaults.all_defaults.Goals as goal

pub loop-i-preserved : goal.loop-i-preserved
loop-i-preserved c =
    default_next c.args.given.now c.loop-i.found.items _ _ c.loop-i.i c.word_at.result c.loop-i-test.true
    c.in_ok-push-2.ensures.items c.word_at.ensures c.loop-i.invariant

pub returns : goal.returns
unfolding all_defaults
returns c = default_end c.args.given.now c.loop-i.found.items _ c.loop-i.i c.loop-i-test.false c.loop-i.invariant
