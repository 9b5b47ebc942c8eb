use Rattle.story.proofs.SizesOfPrograms as sizes
use Rattle.story.proofs.laws.code_is_short.Goals as goal

pub returns : goal.returns
returns c = sizes.code_is_short
