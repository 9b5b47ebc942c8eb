use Rattle.std.proofs.Common.{Option}
use Rattle.meaning.specs.Resolved.{Value}
use Rattle.checker_values.proofs.Walks.{after, three}
use Rattle.checker_statements.proofs.heading_rules.resolved_heading.Goals as goal

abbrev together : Option Value → Option Value → Option Value → Option Value × Option Value × Option Value
together a b c = (a, b, c)

pub returns : goal.returns
returns c = after _ _ _ _ _ c.temporaries.ensures
    (three together c.in-Ok.ensures c.in-Ok-part.ensures c.in-Ok-part-2.ensures)
