use Rattle.syntax.proofs.Weighed as weighed
use Rattle.syntax.proofs.laws.weighed_routines.Goals as goal

pub returns : goal.returns
returns c = weighed.weighed_routines
