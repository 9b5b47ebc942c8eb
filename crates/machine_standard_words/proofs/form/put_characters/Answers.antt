use Rattle.std.proofs.Common.{◌++◌, ◌+◌, take, sym, subst, arith}
use Rattle.ztext.specs.TextParts.{IsFilledKey}
use Rattle.ztext.proofs.Keys.{turn_within, turn_beyond}
use Rattle.machine_standard_words.proofs.form.put_characters.Goals as goal
use Rattle.machine_standard_words.proofs.form.put_characters.Goals.{then-filled-lt9, else-filled-lt9}

pub loop-z-preserved : goal.loop-z-preserved
loop-z-preserved c =
    let items = c.args.more.now in
    let i = c.loop-z.z-index in
    elim c.if-filled-lt9.branch [
      | then-filled-lt9 w ↦ record {
        room = omega arith;
        so_far = λ zs h.
            subst (λ n. IsFilledKey (zs ++ take (i + 1) items) n c.if-filled-lt9.characters) (sym w.filled-is)
            (subst (λ k. IsFilledKey (zs ++ take (i + 1) items) (c.loop-z.filled + 1) k) (sym w.characters-is)
            (turn_within zs items c.loop-z.characters i c.loop-z.filled (omega arith) (c.loop-z.invariant.so_far zs h)
            w.if-filled-lt9.true));
      }
      | else-filled-lt9 w ↦ record {
        room = omega arith;
        so_far = λ zs h.
            subst (λ n. IsFilledKey (zs ++ take (i + 1) items) n c.if-filled-lt9.characters) (sym w.filled-is)
            (subst (λ k. IsFilledKey (zs ++ take (i + 1) items) c.loop-z.filled k) (sym w.characters-is)
            (turn_beyond zs items c.loop-z.characters i c.loop-z.filled (omega arith) (c.loop-z.invariant.so_far zs h)
            w.if-filled-lt9.false));
      }
    ]
