use Rattle.story.proofs.SizesOfChecked as sizes
use Rattle.story.proofs.laws.small_sources_have_small_code.Goals as goal

pub returns : goal.returns
returns c = sizes.small_sources_have_small_code
