use Rattle.code.proofs.Leading.{code_plays_by}
use Rattle.code.proofs.laws.code_plays.Goals as goal

pub returns : goal.returns
returns c = code_plays_by c.items_follow.ensures c.items_are_within.ensures
