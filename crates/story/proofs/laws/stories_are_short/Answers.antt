use Rattle.story.proofs.Sizes as sizes
use Rattle.story.proofs.laws.stories_are_short.Goals as goal

pub returns : goal.returns
returns c = sizes.stories_are_short
