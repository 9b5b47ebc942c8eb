use Rattle.zcore_versions.proofs.StandardTurning.{standard_ends_once}
use Rattle.zcore_versions.proofs.standard_laws.every_standard_turn_ends.Goals as goal

pub returns : goal.returns
returns c = standard_ends_once
