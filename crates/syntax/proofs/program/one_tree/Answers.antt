use Rattle.syntax.proofs.Main.{law_one}
use Rattle.syntax.proofs.program.one_tree.Goals as goal

pub returns : goal.returns
returns c = law_one
