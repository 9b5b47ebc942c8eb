use Rattle.std.proofs.Common.{arith}
use Rattle.machine_picture.proofs.Cells.{padded_still}
use Rattle.machine_picture.proofs.picture.pad.Goals as goal

pub returns-then-count-len-clause-padded : goal.returns-then-count-len-clause-padded
returns-then-count-len-clause-padded c = padded_still c.args.count c.args.cells.now.items (omega arith)
