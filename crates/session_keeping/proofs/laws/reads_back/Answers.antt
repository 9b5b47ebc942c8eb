use Rattle.std.proofs.Common.{false}
use Rattle.session_keeping.proofs.Marks.{unmarked_marked}
use Rattle.session_keeping.proofs.laws.reads_back.Goals as goal

pub returns : goal.returns
returns c = λ typed. unmarked_marked false typed
