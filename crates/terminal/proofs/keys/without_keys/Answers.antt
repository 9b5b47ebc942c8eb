use Rattle.std.proofs.Common.{arith, sym}
use Rattle.terminal.proofs.Sequences.{keeps, reaches_end, skips}
use Rattle.terminal.proofs.keys.without_keys.Goals as goal

pub loop-byte-preserved-then-not-is_kept : goal.loop-byte-preserved-then-not-is_kept
loop-byte-preserved-then-not-is_kept c = record {
  so_far = skips _ c.args.typed.now _ c.loop-byte.byte-index c.loop-byte.reading _ (omega arith)
      (sym c.if-not-is_kept.ensures) c.reading_after-reading.ensures c.loop-byte.invariant.so_far;
}

pub loop-byte-preserved : goal.loop-byte-preserved
loop-byte-preserved c = record {
  so_far = keeps _ _ c.args.typed.now _ c.loop-byte.byte-index c.loop-byte.reading _ (omega arith)
      (sym c.if-not-is_kept.ensures) c.reading_after-reading.ensures c.in_ok-push.ensures.items
      c.loop-byte.invariant.so_far;
}

pub returns : goal.returns
returns c = reaches_end _ c.args.typed.now _ c.loop-byte.byte-index c.loop-byte.reading (omega arith)
    c.loop-byte.invariant.so_far
