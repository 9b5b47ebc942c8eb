use Rattle.std.proofs.Common.{rules}
use Rattle.machine_standard_saves.proofs.Growing.{grew_added}
use Rattle.machine_standard_saves.proofs.pausing.add.Goals as goal

pub returns-clause-text : goal.returns-clause-text
returns-clause-text c =
    grew_added c.extend_from_slice.result c.args.text.now.items c.args.bytes.now _ (search rules) (search rules)
