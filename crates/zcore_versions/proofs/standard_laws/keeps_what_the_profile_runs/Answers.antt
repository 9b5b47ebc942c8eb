use Rattle.zcore_versions.proofs.Running.{standard_runs_keep}
use Rattle.zcore_versions.proofs.standard_laws.keeps_what_the_profile_runs.Goals as goal

pub returns : goal.returns
returns c = standard_runs_keep
