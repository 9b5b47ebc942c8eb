use Rattle.std.proofs.Common.{subst}
use Rattle.zcore.specs.Dictionary.{number_of_key}
use Rattle.tables.specs.Dictionary.{Finds}
use Rattle.tables.proofs.Halving.{finds}
use Rattle.tables.proofs.dictionary.lookup.Goals as goal

pub returns-in-Some : goal.returns-in-Some
unfolding number_of_key
returns-in-Some c = λ d.
    subst (λ k. Finds c.args.story.now c.args.dictionary k c.find.result) (c.read_u48.ensures)
    (finds c.args.story.now c.args.dictionary _ c.find.result c.in-Some.entries c.in-Some.ensures c.find.ensures d)
