use Rattle.zcore_versions.proofs.Restoring.{all_frames}
use Rattle.zcore_versions.proofs.standard_laws.restores_all_frames.Goals as goal

pub returns : goal.returns
returns c = all_frames
