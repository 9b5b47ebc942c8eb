use Rattle.code_items.proofs.Follows as follows
use Rattle.code_items.proofs.laws.items_follow.Goals as goal

pub returns : goal.returns
returns c = follows.items_follow
