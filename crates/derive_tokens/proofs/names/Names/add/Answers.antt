use Rattle.std.proofs.Common.{◌∙◌, ap}
use Rattle.derive_tokens.proofs.Tables.{inserted, rows}
use Rattle.derive_tokens.proofs.names.Names.add.Goals as goal

pub returns : goal.returns
returns c = ap rows c.in_ok-insert.ensures.keys ∙ inserted c.args.name c.args.self.now.names.keys
