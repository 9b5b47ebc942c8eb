use Rattle.code.proofs.Together.{region_laws}
use Rattle.code.proofs.table_laws.opcodes_do_as_objects_do.Goals as goal

pub returns : goal.returns
returns c = region_laws
