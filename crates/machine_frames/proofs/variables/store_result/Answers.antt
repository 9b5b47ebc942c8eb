use Rattle.std.proofs.Common.{refl}
use Rattle.zcore.specs.Parts.{store_result}
use Rattle.machine_frames.proofs.Steps.{went_still}
use Rattle.machine_frames.proofs.variables.store_result.Goals as goal

pub returns-in-None : goal.returns-in-None
unfolding store_result
returns-in-None c = rw c.in-None.is (went_still _ _ c.requires.sound (λ t. refl))

pub returns-in-Some : goal.returns-in-Some
unfolding store_result
returns-in-Some c = rw c.in-Some.is c.write_variable.ensures
