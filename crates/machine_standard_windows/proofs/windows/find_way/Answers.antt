use Rattle.std.proofs.Common.{refl}
use Rattle.machine_standard_windows.proofs.Drawing.{way_of}
use Rattle.machine_standard_windows.proofs.windows.find_way.Goals as goal

pub returns-clause-way : goal.returns-clause-way
returns-clause-way c = way_of c.way_to-lines.result.0 c.way_to-lines.result.1 c.args.row c.args.column c.row_of.result c.args.upper _
    c.args.text.now c.bounds_of-begin.ensures.bounds refl c.row_of.ensures c.way_to-lines.ensures.way
