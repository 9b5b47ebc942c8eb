use Rattle.std.proofs.Common.{◌∙◌}
use Rattle.map_lines.proofs.Rising.{clamped}
use Rattle.map_lines.proofs.routine.row_of.Goals as goal

pub returns-clause-address : goal.returns-clause-address
returns-clause-address c =
    c.unwrap_or.ensures ∙ clamped c.args.beginning.address c.args.after c.saturating_add-address.result
    c.try_from.result c.saturating_add-address.ensures c.try_from.ensures
