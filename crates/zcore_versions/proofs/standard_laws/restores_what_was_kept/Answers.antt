use Rattle.zcore_versions.proofs.Restoring.{restores}
use Rattle.zcore_versions.proofs.standard_laws.restores_what_was_kept.Goals as goal

pub returns : goal.returns
returns c = restores
