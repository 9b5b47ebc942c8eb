use Rattle.zcore_versions.proofs.StandardTurning.{standard_steps}
use Rattle.zcore_versions.proofs.standard_laws.keeps_what_the_profile_steps.Goals as goal

pub returns : goal.returns
returns c = standard_steps
