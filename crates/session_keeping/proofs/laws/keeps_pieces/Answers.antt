use Rattle.session_keeping.proofs.Marks.{marked_after}
use Rattle.session_keeping.proofs.laws.keeps_pieces.Goals as goal

pub returns : goal.returns
returns c = λ begun first second. marked_after begun first second
