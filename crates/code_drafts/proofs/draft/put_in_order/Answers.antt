use Rattle.std.proofs.Common.{length, refl, arith}
use Rattle.code_drafts.proofs.Drafts.{numbered_next, ordered_end}
use Rattle.code_drafts.proofs.draft.put_in_order.Goals as goal

pub loop-number-preserved : goal.loop-number-preserved
loop-number-preserved c =
    numbered_next (length c.args.items.now) c.loop-number.items c.loop-number.number _ _ c.number_target.new.item _
    (omega (arith, c.loop-number-test.true, c.loop-number.auto.items, c.reverse.ensures.len)) refl
    c.number_target.ensures c.loop-number.invariant

pub returns : goal.returns
returns c =
    ordered_end (length c.args.items.now) c.args.items.now c.reverse.new.self c.loop-number.items c.loop-number.number
    c.reverse.ensures.after refl
    (omega (arith, c.loop-number-test.false, c.loop-number.auto.items, c.reverse.ensures.len))
    c.loop-number.invariant
