use Rattle.tables.proofs.Causes.{properties_read}
use Rattle.tables.proofs.laws.properties_are_read.Goals as goal

pub returns : goal.returns
returns c = properties_read
