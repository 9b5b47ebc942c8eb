use Rattle.std.proofs.Common.{arith}
use Rattle.machine_versions_steps.proofs.Joining.{joined_more}
use Rattle.machine_versions_steps.proofs.texts.join.Goals as goal

pub loop-i-preserved : goal.loop-i-preserved
loop-i-preserved c = record {
  so_far = joined_more c.args.bytes.now c.loop-i.bytes c.loop-i.i c.joined.result (omega arith)
      c.loop-i.invariant.so_far c.joined.ensures;
}
