use Rattle.std.proofs.Common.{arith}
use Rattle.derive_joined.specs.declared.mode.Mode.TheVariants as m
use Rattle.derive_joined.specs.Joiners.{inside}
use Rattle.derive_joined.proofs.Stretches.{both_stay, byte_stays}
use Rattle.derive_joined.proofs.stretch.comment_length.Goals as goal

pub loop-at-preserved : goal.loop-at-preserved
loop-at-preserved c =
    let s = inside m.Comment 0 in
    let bytes = c.args.bytes.now in
    let at = c.loop-at.at in
    record {
      within = omega (arith, c.loop-at-test.true);
      stays = both_stay s bytes at 1 c.loop-at.invariant.stays
          (byte_stays s bytes at c.loop-at-test.true (c.stays_in_comment.ensures c.if-stays_in_comment.true));
    }
