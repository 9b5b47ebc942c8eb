use Rattle.syntax.proofs.Printable as printable
use Rattle.syntax.proofs.laws.printable_trees.Goals as goal

pub returns : goal.returns
returns c = printable.printable_trees
