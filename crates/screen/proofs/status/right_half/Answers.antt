use Rattle.std.proofs.Common.{arith, sym}
use Rattle.screen.proofs.Adding.{to_end}
use Rattle.screen.proofs.Halves.{no_longer, right_end, right_skips, right_takes}
use Rattle.screen.proofs.status.right_half.Goals as goal

pub loop-place-preserved-then-not-begins_right : goal.loop-place-preserved-then-not-begins_right
loop-place-preserved-then-not-begins_right c = record {
  within = c.loop-place.invariant.within;
  so_far = right_skips c.args.line.now c.loop-place.found.now _ c.loop-place.place _ (omega arith)
      (to_end c.loop-place.place c.args.line.now) (sym c.if-not-begins_right.ensures) c.loop-place.invariant.so_far;
}

pub loop-place-preserved : goal.loop-place-preserved
loop-place-preserved c = record {
  within = no_longer c.args.line.now _ c.loop-place.place (to_end c.loop-place.place c.args.line.now);
  so_far = right_takes c.args.line.now c.loop-place.found.now _ c.loop-place.place _ (omega arith)
      (to_end c.loop-place.place c.args.line.now) (sym c.if-not-begins_right.ensures) c.loop-place.invariant.so_far;
}

pub returns-clause-half : goal.returns-clause-half
returns-clause-half c = right_end c.args.line.now c.loop-place.found.now c.loop-place.place _ (omega arith)
    c.loop-place.invariant.so_far
