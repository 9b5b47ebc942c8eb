use Rattle.std.proofs.Common.{refl}
use Rattle.zcore.specs.Parts.{operand_value}
use Rattle.machine_frames.proofs.Steps.{went_still}
use Rattle.machine_frames.proofs.variables.operand_value.Goals as goal

pub returns-in-Large : goal.returns-in-Large
unfolding operand_value
returns-in-Large c = rw c.in-Large.is (went_still _ _ c.requires.sound (λ t. refl))

pub returns-in-Small : goal.returns-in-Small
unfolding operand_value
returns-in-Small c = rw c.in-Small.is (went_still _ _ c.requires.sound (λ t. refl))

pub returns-in-Variable : goal.returns-in-Variable
unfolding operand_value
returns-in-Variable c = rw c.in-Variable.is c.read_variable.ensures
