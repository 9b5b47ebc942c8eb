use Rattle.code_items.proofs.Properties.{properties_round, properties_done}
use Rattle.code_items.proofs.objects.put_properties.Goals as goal

pub loop-done-preserved : goal.loop-done-preserved
loop-done-preserved c = properties_round _ _ _ _ c.args.wanted _ _ c.args.numbers.now c.loop-done.done _
    c.loop-done-test.true c.loop-done.invariant c.in-Ok.ensures c.in-Ok-put.ensures

pub returns : goal.returns
returns c = properties_done _ _ c.args.wanted _ c.args.numbers.now c.loop-done.done c.loop-done-test.false
    c.loop-done.invariant
