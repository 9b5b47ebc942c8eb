use Rattle.std.proofs.Common.{◌++◌, ◌+◌, take, sym, subst, arith}
use Rattle.ztext.specs.TextParts.{IsFilledKey}
use Rattle.ztext.proofs.Keys.{turn_within, turn_beyond}
use Rattle.ztext.proofs.text.put_spelling.Goals as goal
use Rattle.ztext.proofs.text.put_spelling.Goals.{then-filled-lt9, else-filled-lt9}

pub loop-z-preserved : goal.loop-z-preserved
loop-z-preserved c =
    let items = c.as_slice-z-items.result.now in
    let i = c.loop-z.z-index in
    elim c.if-filled-lt9.branch [
      | then-filled-lt9 w ↦ record {
        room = omega arith;
        so_far = λ zs h.
            subst (λ n. IsFilledKey (zs ++ take (i + 1) items) n c.if-filled-lt9.key) (sym w.filled-is)
            (subst (λ k. IsFilledKey (zs ++ take (i + 1) items) (c.loop-z.filled + 1) k) (sym w.key-is)
            (turn_within zs items c.loop-z.key i c.loop-z.filled (omega arith) (c.loop-z.invariant.so_far zs h)
            w.if-filled-lt9.true));
      }
      | else-filled-lt9 w ↦ record {
        room = omega arith;
        so_far = λ zs h.
            subst (λ n. IsFilledKey (zs ++ take (i + 1) items) n c.if-filled-lt9.key) (sym w.filled-is)
            (subst (λ k. IsFilledKey (zs ++ take (i + 1) items) c.loop-z.filled k) (sym w.key-is)
            (turn_beyond zs items c.loop-z.key i c.loop-z.filled (omega arith) (c.loop-z.invariant.so_far zs h)
            w.if-filled-lt9.false));
      }
    ]
