use Rattle.std.proofs.Common.{arith, refl}
use Rattle.screen.proofs.Adding.{all_added}
use Rattle.screen.proofs.Texts.{fitting_end, fitting_more, fitting_stops}
use Rattle.screen.proofs.upper.put_fitting.Goals as goal

pub loop-byte-preserved : goal.loop-byte-preserved
loop-byte-preserved c = record {
  so_far = fitting_more _ _ _ c.args.line.now c.loop-byte.room c.loop-byte.byte-index _ _ (omega arith) refl
      c.width-taken.ensures (omega arith) c.in_ok-push.ensures.items c.loop-byte.invariant.so_far;
}

pub returns : goal.returns
returns c = all_added _ _ _ (fitting_end c.loop-byte.room c.loop-byte.byte-index c.args.line.now (omega arith))
    c.loop-byte.invariant.so_far

pub returns-then-room-taken : goal.returns-then-room-taken
returns-then-room-taken c = fitting_stops _ _ c.args.line.now c.loop-byte.room c.loop-byte.byte-index _ _ (omega arith)
    refl c.width-taken.ensures c.if-room-taken.true c.loop-byte.invariant.so_far
