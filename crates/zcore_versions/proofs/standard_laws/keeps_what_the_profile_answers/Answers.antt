use Rattle.zcore_versions.proofs.StandardTurning.{standard_turn_on_keeps}
use Rattle.zcore_versions.proofs.standard_laws.keeps_what_the_profile_answers.Goals as goal

pub returns : goal.returns
returns c = standard_turn_on_keeps
