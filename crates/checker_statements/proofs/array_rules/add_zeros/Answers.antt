use Rattle.checker_statements.proofs.ArrayBytes.{zero_added, zeros_added}
use Rattle.checker_statements.proofs.array_rules.add_zeros.Goals as goal

pub loop-turn-preserved : goal.loop-turn-preserved
loop-turn-preserved c = zero_added c.args.width c.args.count c.loop-turn._turn c.loop-turn.bytes.items
    c.add_entry.new.bytes.items _ c.loop-turn-test.true c.in_ok-add_entry.ensures c.loop-turn.invariant

pub returns : goal.returns
returns c = zeros_added c.args.width c.args.count c.loop-turn._turn c.loop-turn.bytes.items _
    c.loop-turn-test.false c.loop-turn.invariant
