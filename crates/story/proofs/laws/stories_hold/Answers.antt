use Rattle.story.proofs.Holding as holding
use Rattle.story.proofs.laws.stories_hold.Goals as goal

pub returns : goal.returns
returns c = holding.stories_hold
