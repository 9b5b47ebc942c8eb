use Rattle.std.proofs.Common.{sym}
use Rattle.zcore_standard.proofs.decode.types_at.Goals as goal

pub returns-clause-types : goal.returns-clause-types
returns-clause-types c = rw (sym c.has_more_types.ensures) c.read_by_form.ensures.types
