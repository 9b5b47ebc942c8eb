use Rattle.std.proofs.Common.{arith}
use Rattle.machine_picture.proofs.Showing.{bare_at}
use Rattle.machine_picture.proofs.lines.line_of.Goals as goal

pub returns : goal.returns
returns c = record {
  row = c.row_of.ensures;
  bare = bare_at c.args.upper c.args.text.now c.min-from.result c.bare_length-bare.result
      (omega (arith, c.min-from.ensures)) c.bare_length-bare.ensures.bare;
}
