use Rattle.std.proofs.Common.{◌∙◌, ap}
use Rattle.derive_tokens.specs.Names.{number_at}
use Rattle.derive_tokens.proofs.Tables.{place}
use Rattle.derive_tokens.proofs.names.Names.number.Goals as goal

pub returns-in-Some : goal.returns-in-Some
returns-in-Some c = ap number_at (c.in-Some.ensures.index ∙ place c.args.name.now c.args.self.now.names.keys)

pub returns-in-None : goal.returns-in-None
returns-in-None c = ap number_at (c.in-None.ensures.index ∙ place c.args.name.now c.args.self.now.names.keys)
