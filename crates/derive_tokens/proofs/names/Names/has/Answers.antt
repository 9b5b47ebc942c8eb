use Rattle.std.proofs.Common.{◌∙◌}
use Rattle.derive_tokens.proofs.Tables.{is_there}
use Rattle.derive_tokens.proofs.names.Names.has.Goals as goal

pub returns : goal.returns
returns c = c.contains.ensures ∙ is_there c.args.name.now c.args.self.now.names.keys
