use Rattle.checker.proofs.Printable as printable
use Rattle.checker.proofs.laws.printable_programs.Goals as goal

pub returns : goal.returns
returns c = printable.printable_programs
