use Rattle.std.proofs.Common.{◌∙◌, []}
use Rattle.derive_tokens.proofs.Tables.{row_at}
use Rattle.derive_tokens.proofs.names.Names.at.Goals as goal

pub returns-in-Some : goal.returns-in-Some
returns-in-Some c =
    c.as_slice.ensures.value ∙ row_at c.args.self.now.names.keys c.args.place c.in-Some.name.now [] c.in-Some.ensures.key
