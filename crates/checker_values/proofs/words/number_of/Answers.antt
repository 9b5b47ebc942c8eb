use Rattle.std.proofs.Common.{arith}
use Rattle.zcore.specs.Dictionary.{number_of_key}
use Rattle.checker_values.proofs.SmallKeys.{number_fits}
use Rattle.checker_values.proofs.words.number_of.Goals as goal

pub returns : goal.returns
unfolding number_of_key
returns c = number_fits c.read_u48.result c.args.key.now c.read_u48.ensures (λ i. omega (arith, c.fits-key i))
