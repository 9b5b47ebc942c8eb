use Rattle.std.proofs.Common.{◌+◌, arith}
use Rattle.std.specs.Vec.{vec_len}
use Rattle.machine_standard_windows.proofs.Drawing.{set_apart_is}
use Rattle.machine_standard_windows.proofs.windows.put_newlines.Goals as goal

pub returns-clause-apart : goal.returns-clause-apart
returns-clause-apart c = set_apart_is c.resize.result c.args.at (c.len.result + c.args.after)
    (vec_len c.insert_lines.new.text) c.args.before c.args.after c.args.text.now.items c.insert_lines.new.text.items _
    c.in_ok-insert_lines.ensures.inserted (omega arith) (omega arith) c.resize.ensures.items
