use Rattle.std.proofs.Common.{◌∙◌}
use Rattle.checker_values.proofs.Tables.{lookup_table}
use Rattle.checker_values.proofs.table.find_key.Goals as goal

pub returns : goal.returns
returns c = c.copied.ensures ∙ c.get.ensures.value ∙ lookup_table c.args.table.now.entries c.args.key.now
