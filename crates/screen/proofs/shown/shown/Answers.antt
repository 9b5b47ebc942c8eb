use Rattle.std.proofs.Common.{arith, refl}
use Rattle.screen.proofs.Adding.{all_added}
use Rattle.screen.proofs.Texts.{shown_end, shown_more}
use Rattle.screen.proofs.shown.shown.Goals as goal

pub loop-byte-preserved : goal.loop-byte-preserved
loop-byte-preserved c = record {
  so_far = shown_more _ _ _ c.args.text.now c.loop-byte.before c.loop-byte.byte-index _ _ (omega arith) refl
      c.shown_byte.ensures c.in_ok-push.ensures.items c.loop-byte.invariant.so_far;
}

pub returns : goal.returns
returns c = all_added _ _ _ (shown_end c.loop-byte.before c.loop-byte.byte-index c.args.text.now (omega arith))
    c.loop-byte.invariant.so_far
