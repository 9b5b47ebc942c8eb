use Rattle.std.proofs.Common.{◌+◌, arith}
use Rattle.std.specs.Vec.{vec_len}
use Rattle.machine_standard_saves.proofs.Prompts.{lines_added, none_added}
use Rattle.machine_standard_saves.proofs.pausing.add_lines.Goals as goal

pub returns-clause-added : goal.returns-clause-added
returns-clause-added c =
    lines_added c.resize.result (c.len.result + c.args.lines) (vec_len c.args.text.now) c.args.lines
    c.args.text.now.items _ (omega arith) (omega arith) c.resize.ensures.items

pub returns-clause-same : goal.returns-clause-same
returns-clause-same c =
    none_added c.resize.result (c.len.result + c.args.lines) (vec_len c.args.text.now) c.args.text.now.items _
    c.resize.ensures.items
