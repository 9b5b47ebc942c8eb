use Rattle.terminal.proofs.Rows.{all_added, one_added}
use Rattle.terminal.proofs.parts.arguments_of.Goals as goal

pub loop-row-preserved : goal.loop-row-preserved
loop-row-preserved c =
    one_added c.args.rows.now c.loop-row.row-index _ c.loop-row.arguments.items c.add_argument.new.arguments.items
    c.loop-row-test.true c.loop-row.invariant c.in_ok-add_argument.ensures

pub returns : goal.returns
returns c =
    all_added c.args.rows.now c.loop-row.row-index c.loop-row.arguments.items c.loop-row-test.false c.loop-row.invariant
