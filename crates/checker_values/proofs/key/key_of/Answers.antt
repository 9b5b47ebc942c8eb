use Rattle.std.proofs.Common.{◌∙◌}
use Rattle.checker_values.proofs.Keys.{key_filled}
use Rattle.checker_values.proofs.key.key_of.Goals as goal

pub returns : goal.returns
returns c = c.loop-i.invariant ∙ key_filled c.args.name.now c.loop-i.i _ c.key_length-i-end.ensures.all c.loop-i-test.false
