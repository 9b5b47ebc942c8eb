use Rattle.std.proofs.Common.{◌∙◌}
use Rattle.derive_tokens.proofs.Tables.{place}
use Rattle.derive_tokens.proofs.names.Names.place.Goals as goal

pub returns : goal.returns
returns c = c.get_index_of.ensures.index ∙ place c.args.name.now c.args.self.now.names.keys
