use Rattle.std.proofs.Common.{◌∙◌}
use Rattle.derive_tokens.proofs.Tables.{rows_length}
use Rattle.derive_tokens.proofs.names.Names.count.Goals as goal

pub returns : goal.returns
returns c = c.len.ensures.len ∙ rows_length c.args.self.now.names.keys
