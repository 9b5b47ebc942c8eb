use Rattle.code_items.proofs.Within as within
use Rattle.code_items.proofs.laws.items_are_within.Goals as goal

pub returns : goal.returns
returns c = within.items_are_within
